pub mod Adding
pub mod Grouped
pub mod Turns
