pub mod Words
pub mod Digits
pub mod Octets
pub mod Blocks
pub mod Ranges
pub mod Each
pub mod Orders
