pub mod Tied
pub mod Only
