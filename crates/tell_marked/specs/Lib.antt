pub mod TellMarked
