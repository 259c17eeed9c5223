pub mod Plain
pub mod Fits
pub mod Parts
pub mod Spelled
pub mod Line
pub mod Steps
