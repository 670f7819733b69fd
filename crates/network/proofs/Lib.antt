pub mod Lengths
pub mod Windows
pub mod Contradictions
