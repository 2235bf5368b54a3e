pub mod Bags
pub mod Radix
pub mod CellPair
