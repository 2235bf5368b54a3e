pub mod Answers
pub mod Alike
pub mod Given
