pub mod Rows
pub mod Written
pub mod LineWriting
pub mod RunWriting
pub mod Writes
pub mod Figures
