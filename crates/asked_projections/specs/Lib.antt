pub mod Generalized
