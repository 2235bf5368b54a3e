pub mod Greatest
pub mod Prefixes
pub mod Walks
