pub mod Figures
pub mod LinesEnd
pub mod Pieces
pub mod Named
pub mod ArgumentFigures
