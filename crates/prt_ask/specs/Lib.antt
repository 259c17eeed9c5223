pub mod Answers
pub mod Ends
pub mod Fed
pub mod Mirrors
pub mod Questions
