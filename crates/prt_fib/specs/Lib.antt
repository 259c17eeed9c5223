pub mod Fib
pub mod Following
pub mod Hashes
pub mod Numbers
pub mod Pieces
pub mod Places
pub mod Policy
