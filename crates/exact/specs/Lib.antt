pub mod Lists
pub mod Fractions
pub mod Lawful
