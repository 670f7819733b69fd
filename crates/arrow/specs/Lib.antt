pub mod Rule
pub mod Lawful
