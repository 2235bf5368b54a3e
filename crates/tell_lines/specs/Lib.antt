pub mod TellLines
pub mod Parts
