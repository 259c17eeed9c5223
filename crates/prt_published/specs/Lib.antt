pub mod Line
pub mod History
pub mod Copies
