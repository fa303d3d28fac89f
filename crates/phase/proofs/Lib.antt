pub mod Words
pub mod Tells
pub mod Multiplies
