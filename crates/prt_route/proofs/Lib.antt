pub mod Padding
pub mod Tables
pub mod Edits
