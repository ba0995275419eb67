pub mod Watch
pub mod ByValue
