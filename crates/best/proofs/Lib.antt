pub mod Ranking
pub mod Best
