pub mod Examples
pub mod LineLaws
