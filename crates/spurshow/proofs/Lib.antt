pub mod Showing
pub mod Paging
