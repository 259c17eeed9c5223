pub mod Reports
pub mod Sessions
