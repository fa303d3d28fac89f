pub mod Calibrations
pub mod Tables
