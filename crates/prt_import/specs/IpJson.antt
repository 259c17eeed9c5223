-- The lines that `ip` prints, of its JSON.
pub mod Words
pub mod Listing
pub mod Documents
pub mod Steps
