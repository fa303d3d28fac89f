pub mod Sizes
pub mod Models
pub mod Pairs
pub mod Held
