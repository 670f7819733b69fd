pub mod Lawful
pub mod Layers
pub mod Options
pub mod Past
pub mod Puts
pub mod Ranges
