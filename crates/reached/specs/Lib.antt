pub mod Reached
pub mod Cases
