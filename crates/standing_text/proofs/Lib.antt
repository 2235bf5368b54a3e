pub mod Struck
pub mod ReadLeft
pub mod Printed
pub mod Made
pub mod Answers
pub mod Left
pub mod Handed
pub mod Figures
