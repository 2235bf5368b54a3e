pub mod Products
pub mod SetWords
pub mod Values
pub mod Reduced
pub mod Answers
pub mod Printed
pub mod Figures
