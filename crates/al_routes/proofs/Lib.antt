pub mod Seeking
pub mod PathLemmas
pub mod NumberLemmas
pub mod NameLemmas
pub mod QueryLemmas
pub mod KindLemmas
pub mod AskLemmas
pub mod OneLemmas
