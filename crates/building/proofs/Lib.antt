pub mod Fillable
pub mod Filling
