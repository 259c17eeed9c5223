pub mod Dump
pub mod PutBack
