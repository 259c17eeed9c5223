pub mod Rules
pub mod Steps
pub mod Lines
pub mod Texts
pub mod Taking
pub mod Sent
pub mod Spaces
