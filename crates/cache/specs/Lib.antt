pub mod States
pub mod Block
pub mod Operations
pub mod Tables
pub mod Answers
pub mod Calls
pub mod Kept
