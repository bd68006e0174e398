pub mod Labels
pub mod Files
pub mod Records
pub mod Decoding
pub mod Ranges
pub mod Catching
pub mod Steps
