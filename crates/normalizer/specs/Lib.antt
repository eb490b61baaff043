pub mod Divergence
pub mod Layered
pub mod Normalize
pub mod Once
pub mod OpenWires
pub mod Outcome
pub mod Starred
pub mod Worked
