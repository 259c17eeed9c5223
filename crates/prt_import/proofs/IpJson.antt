pub mod Cuts
pub mod Values
pub mod Joining
pub mod Texts
