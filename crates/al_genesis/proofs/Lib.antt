pub mod Places
pub mod Meaning
pub mod Exclusive
pub mod Once
