pub mod Scans
pub mod Sets
pub mod Ways
