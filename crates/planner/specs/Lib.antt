pub mod Exports
pub mod Calls
pub mod Refused
