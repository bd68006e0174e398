pub mod Columns
pub mod Code
pub mod Canonical
pub mod Kinds
pub mod Laws
