pub mod StandingText
pub mod Printed
