pub mod Adding
pub mod Histories
pub mod Numbers
pub mod Prefixes
pub mod Rules
