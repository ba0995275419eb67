pub mod Input
pub mod State
pub mod Pieces
