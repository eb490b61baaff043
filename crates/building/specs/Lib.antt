pub mod Fill
pub mod Tables
