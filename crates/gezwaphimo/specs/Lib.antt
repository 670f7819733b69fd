pub mod Words
pub mod Texts
pub mod Hearing
pub mod Kinds
