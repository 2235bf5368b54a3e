pub mod WordCounts
pub mod Squared
pub mod OverParts
pub mod FromCounts
pub mod TurnedEntries
pub mod OnlyWord
pub mod Figures
