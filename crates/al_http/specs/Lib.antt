pub mod Limits
pub mod Fields
pub mod Sizes
pub mod Requests
pub mod Heads
pub mod Laws
