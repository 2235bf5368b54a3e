pub mod Ranges
pub mod Answered
pub mod Order
pub mod Figures
