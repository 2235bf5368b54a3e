pub mod Tallied
pub mod OneSet
