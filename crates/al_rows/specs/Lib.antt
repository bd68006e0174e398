pub mod Finite
pub mod Limits
pub mod Rows
pub mod Above
