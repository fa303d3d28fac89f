pub mod Fits
pub mod Listed
pub mod Neighbours
pub mod Puts
