pub mod Words
pub mod Entries
pub mod Given
pub mod Answers
