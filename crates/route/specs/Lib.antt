pub mod Ends
pub mod Paths
pub mod Routes
