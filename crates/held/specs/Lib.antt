pub mod Held
pub mod History
pub mod Given
