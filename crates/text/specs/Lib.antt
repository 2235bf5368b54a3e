pub mod Bytes
pub mod Decimal
pub mod Text
pub mod Reader
pub mod Reading
