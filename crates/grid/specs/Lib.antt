pub mod Grids
pub mod CellSets
pub mod Members
