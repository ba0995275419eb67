pub mod Wording
pub mod Examples
pub mod Reading
pub mod Printing
