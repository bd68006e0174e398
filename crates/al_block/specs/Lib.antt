pub mod Header
pub mod Block
pub mod Hashes
pub mod Ranges
pub mod Within
