pub mod LineBooks
pub mod Lawful
