pub mod Ratios
pub mod Given
