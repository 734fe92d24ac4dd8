pub mod Sample
pub mod Start
pub mod Vectors
