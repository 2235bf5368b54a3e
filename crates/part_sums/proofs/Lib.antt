pub mod Counting
pub mod Places
pub mod Stored
pub mod Filling
pub mod Kept
