pub mod Held
pub mod Figures
