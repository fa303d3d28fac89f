pub mod Links
pub mod Windows
pub mod Swaps
pub mod Laying
pub mod Routed
pub mod There
