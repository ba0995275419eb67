pub mod MemberLaws
pub mod TopLaws
pub mod SizeLaws
pub mod WithLaws
