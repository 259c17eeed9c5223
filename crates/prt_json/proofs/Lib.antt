pub mod Tokens
pub mod Depth
pub mod Asked
pub mod Deciding
