pub mod Spelling
pub mod Found
pub mod Explains
pub mod Shows
pub mod IsReason
