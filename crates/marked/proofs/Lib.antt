pub mod Beginnings
pub mod MarkedRuns
