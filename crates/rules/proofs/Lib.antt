pub mod Asked
pub mod Cases
pub mod Fits
