pub mod Steps
pub mod Kept
pub mod Runs
pub mod Calls
