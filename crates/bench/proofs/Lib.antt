pub mod Answers
pub mod Added
