pub mod Digits
pub mod Layout
pub mod Packing
pub mod Places
