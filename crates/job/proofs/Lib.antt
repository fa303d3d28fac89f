pub mod Lives
pub mod Verdicts
pub mod Listings
pub mod Runs
pub mod Views
