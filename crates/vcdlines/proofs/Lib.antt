pub mod ChangeLaws
pub mod ReadingLaws
pub mod Examples
