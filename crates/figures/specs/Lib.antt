pub mod Figures
pub mod Times
