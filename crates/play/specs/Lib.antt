pub mod Played
pub mod Asked
pub mod Stages
