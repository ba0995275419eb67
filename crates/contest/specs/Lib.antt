pub mod Contest
pub mod Walk
