pub mod Lines
pub mod Arguments
pub mod Counts
