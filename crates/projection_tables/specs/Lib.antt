pub mod Tables
pub mod Given
pub mod Properties
