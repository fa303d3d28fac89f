pub mod Exchanges
pub mod Words
pub mod Passes
pub mod Sizes
pub mod Fitting
pub mod Multiplies
