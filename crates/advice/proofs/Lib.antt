pub mod Without
pub mod Largest
pub mod Optimal
pub mod Walks
pub mod RowSums
pub mod Turns
pub mod Figures
pub mod Enough
