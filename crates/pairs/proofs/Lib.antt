pub mod Laws
pub mod Bound
pub mod Rows
pub mod Adding
pub mod Columns
pub mod Totals
pub mod OfPlan
pub mod Once
