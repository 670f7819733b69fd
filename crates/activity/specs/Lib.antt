pub mod Activities
pub mod Relations
pub mod Rule
pub mod Lawful
