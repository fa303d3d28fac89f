pub mod Numbers
pub mod Swaps
pub mod Gates
pub mod Matrices
pub mod Basis
