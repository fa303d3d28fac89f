pub mod Common
pub mod LatePlaces
pub mod Sweeps
