pub mod Explanation
pub mod Asked
pub mod Steps
