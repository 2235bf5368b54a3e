pub mod WordZero
pub mod Lawful
pub mod Turns
pub mod OfPlan
pub mod Sides
pub mod Cases
pub mod Figures
