pub mod Readings
pub mod Reasons
