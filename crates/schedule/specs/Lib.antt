pub mod Schedules
pub mod Sweeps
