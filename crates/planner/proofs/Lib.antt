pub mod Answers
pub mod Sizes
pub mod Figures
pub mod Starred
pub mod Calls
pub mod Refused
