pub mod Arcs
pub mod Copies
pub mod Rising
pub mod Walks
pub mod RingSteps
pub mod Outcomes
pub mod Falling
pub mod Solutions
