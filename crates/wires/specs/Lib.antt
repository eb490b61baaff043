pub mod Crossing
pub mod Wires
