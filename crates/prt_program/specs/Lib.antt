pub mod Databases
pub mod Messages
pub mod Program
pub mod Faults
