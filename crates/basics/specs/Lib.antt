pub mod Numbers
pub mod Lines
pub mod Order
pub mod Answers
