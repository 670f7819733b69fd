pub mod Meanings
pub mod Schedules
pub mod Rings
