pub mod SetWords
pub mod Given
pub mod Properties
