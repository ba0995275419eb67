pub mod Looks
pub mod Calls
pub mod Parts
