pub mod Flags
pub mod Finite
pub mod Laws
pub mod Starred
