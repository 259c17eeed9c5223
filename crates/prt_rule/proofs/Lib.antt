pub mod SameRules
