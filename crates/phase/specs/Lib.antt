pub mod Phases
pub mod PhaseLaws
pub mod Models
pub mod Registers
pub mod Vectors
