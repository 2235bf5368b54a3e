pub mod Words
pub mod Every
pub mod Measures
pub mod Ratings
pub mod Texts
pub mod Answers
pub mod Figures
