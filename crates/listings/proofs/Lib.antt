pub mod Starts
pub mod Fronts
pub mod Steps
pub mod Passes
pub mod Listings
