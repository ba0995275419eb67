pub mod Walks
pub mod Dividing
pub mod Members
pub mod Medians
pub mod Below
pub mod Summaries
pub mod Reordered
