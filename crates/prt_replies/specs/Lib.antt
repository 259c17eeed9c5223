pub mod Reply
pub mod Written
pub mod Input
pub mod ScriptEnd
