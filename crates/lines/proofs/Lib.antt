pub mod Extending
pub mod Feeding
