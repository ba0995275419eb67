pub mod Signals
pub mod Dump
pub mod Head
