pub mod Laws
pub mod Quoted
pub mod Examples
