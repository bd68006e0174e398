pub mod Exact
pub mod Spellings
