pub mod Refused
pub mod Added
