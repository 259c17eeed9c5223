pub mod Remade
pub mod Sessions
pub mod Texts
