pub mod Numbers
pub mod Assignments
pub mod Indices
pub mod BitFunctions
pub mod Matrices
pub mod Gates
pub mod Basis
