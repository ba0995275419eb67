pub mod Using
pub mod Charge
pub mod Calls
pub mod Told
pub mod Pieces
pub mod Cases
