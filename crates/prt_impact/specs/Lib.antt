pub mod Groups
pub mod GroupsJson
pub mod MarkSets
pub mod Orders
pub mod Padded
pub mod Replacing
pub mod Steps
pub mod Text
