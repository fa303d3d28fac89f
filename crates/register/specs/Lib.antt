pub mod Rows
pub mod Models
pub mod Numbers
pub mod Runs
