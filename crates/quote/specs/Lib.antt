pub mod Quotes
pub mod Quoted
