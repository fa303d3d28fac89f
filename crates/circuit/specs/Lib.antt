pub mod Actions
pub mod Operations
pub mod Known
