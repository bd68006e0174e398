pub mod PieceLemmas
pub mod Takings
pub mod Longer
pub mod Gathered
pub mod Rest
pub mod ElementLemmas
pub mod TipLemmas
