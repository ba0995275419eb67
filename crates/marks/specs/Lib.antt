pub mod Marks
pub mod Report
pub mod State
pub mod Pieces
pub mod Cases
