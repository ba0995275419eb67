pub mod RowLaws
pub mod Examples
