pub mod Digits
pub mod Spaced
pub mod Kept
pub mod ListingLines
