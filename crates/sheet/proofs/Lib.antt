pub mod Rooming
pub mod Freeing
pub mod Rowing
pub mod Stepping
pub mod Writing
pub mod Sheeting
