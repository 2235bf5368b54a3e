pub mod Good
pub mod Given
