pub mod Words
pub mod Ends
pub mod Multiplies
pub mod Sets
