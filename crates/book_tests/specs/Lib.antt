pub mod Cramped
pub mod Lawful
