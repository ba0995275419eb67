pub mod Shown
pub mod Pages
