pub mod Units
pub mod Lanes
pub mod Start
pub mod Modes
pub mod Owed
pub mod Ack
pub mod Parity
