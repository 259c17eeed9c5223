mod Checks
pub mod Breaches
pub mod Spans
pub mod Both
pub mod Candidates
pub mod Collects
pub mod Deciders
pub mod Finds
pub mod Left
pub mod Loops
pub mod Marks
pub mod Prefixes
pub mod RoutePlaces
pub mod Whole
pub mod WhyUnused
pub mod Samples
pub mod Selectors
pub mod Texts
