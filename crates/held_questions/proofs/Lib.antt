pub mod Rises
pub mod Lent
pub mod Rating
pub mod Seen
pub mod Alike
pub mod AlikeHistory
pub mod RowSums
pub mod Figures
