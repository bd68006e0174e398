pub mod Good
pub mod Openings
pub mod Parts
pub mod TurnLemmas
pub mod RangeLemmas
