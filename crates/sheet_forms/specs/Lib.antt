pub mod Texts
pub mod Shown
