pub mod Digits
pub mod Letters
pub mod Groups
pub mod Readings
