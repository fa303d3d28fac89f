pub mod Sameness
pub mod Serving
