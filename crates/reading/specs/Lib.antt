pub mod Words
pub mod Reads
pub mod Pages
