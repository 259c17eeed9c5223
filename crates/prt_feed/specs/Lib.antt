pub mod Changes
pub mod Feed
pub mod Following
pub mod Numbered
pub mod Reading
pub mod Steps
