pub mod Databases
