pub mod Lines
pub mod Given
