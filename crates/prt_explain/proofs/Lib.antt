pub mod AskedRules
pub mod Lookups
pub mod RunnersUp
pub mod Texts
