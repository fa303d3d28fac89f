pub mod Parities
pub mod Registers
pub mod Vectors
pub mod Sets
