pub mod ByTable
pub mod Contents
pub mod Folds
pub mod Grouped
pub mod FromRows
pub mod OneForm
pub mod Places
pub mod RowOrder
pub mod RuleOrder
pub mod RuleIndexes
pub mod Verdicts
mod Silent
pub mod Runs
pub mod SortedRows
pub mod Successor
pub mod Refused
