pub mod Tell
pub mod Words
pub mod Evidence
pub mod Answer
pub mod Given
