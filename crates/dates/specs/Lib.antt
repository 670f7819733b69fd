pub mod Layered
pub mod LayeredLemmas
