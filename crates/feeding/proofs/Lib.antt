pub mod GoOn
pub mod Bounds
pub mod Feeding
