pub mod Words
pub mod Decimal
pub mod Numbers
pub mod Places
pub mod Pages
