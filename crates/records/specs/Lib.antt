pub mod Bytes
pub mod Every
pub mod Layout
pub mod Props
pub mod Records
