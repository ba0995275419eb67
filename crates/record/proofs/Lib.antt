pub mod ByHand
pub mod Digits
pub mod Groups
pub mod Bytes
pub mod Widths
pub mod Packing
pub mod Unpacking
pub mod RoundTrip
