pub mod Examples
pub mod AddingLaws
pub mod LineLaws
