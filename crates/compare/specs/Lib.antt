pub mod Compare
pub mod Judged
pub mod Given
