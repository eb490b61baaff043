pub mod Effect
pub mod Example
pub mod Starred
