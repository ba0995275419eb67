pub mod State
pub mod Input
