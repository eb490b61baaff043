pub mod Every
pub mod Guards
pub mod Sections
