pub mod Wires
pub mod Gates
