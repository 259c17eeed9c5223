pub mod Claims
pub mod Unused
