pub mod Agreeing
pub mod Arms
pub mod Numbered
