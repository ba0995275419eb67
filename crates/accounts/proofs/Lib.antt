pub mod Watched
pub mod Charging
pub mod Calls
pub mod Crossing
pub mod Posting
