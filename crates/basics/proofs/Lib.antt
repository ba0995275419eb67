pub mod Bools
pub mod Bits
pub mod Count
pub mod Refusals
