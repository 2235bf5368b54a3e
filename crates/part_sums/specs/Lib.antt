pub mod Counters
pub mod Stored
pub mod Given
