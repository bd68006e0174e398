pub mod Grown
pub mod Latest
pub mod Orders
pub mod Pruned
pub mod Told
