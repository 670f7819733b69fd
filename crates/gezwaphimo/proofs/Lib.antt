pub mod Shorts
pub mod Lines
pub mod Firsts
