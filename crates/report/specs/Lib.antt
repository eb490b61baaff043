pub mod Fields
pub mod Promises
pub mod Report
pub mod Writing
