pub mod TableLines
pub mod Given
