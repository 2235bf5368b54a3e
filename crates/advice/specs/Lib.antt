pub mod Advice
pub mod Rows
pub mod Given
