pub mod PlaceLaws
pub mod PageLaws
pub mod NumberLaws
pub mod DecimalLaws
pub mod Examples
