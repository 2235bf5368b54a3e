pub mod Resolution
pub mod Charts
pub mod Given
pub mod Properties
