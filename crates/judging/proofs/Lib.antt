pub mod Judging
pub mod Walks
