pub mod Refusals
pub mod Rules
pub mod Layers
pub mod Calls
pub mod Past
pub mod Laws
