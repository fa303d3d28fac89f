pub mod Exchanges
pub mod Routes
pub mod Blocks
pub mod Times
pub mod Ready
pub mod Whole
