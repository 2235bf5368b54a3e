pub mod Ranking
pub mod Best
pub mod Kept
