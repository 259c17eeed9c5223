pub mod Routes
pub mod Rules
pub mod Plan
pub mod Walk
pub mod Brings
