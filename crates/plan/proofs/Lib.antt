pub mod Loops
pub mod Checks
pub mod Answers
pub mod Sound
pub mod Several
pub mod Figures
