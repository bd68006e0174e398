pub mod AskLemmas
pub mod FieldLemmas
pub mod HeadLemmas
pub mod LawLemmas
pub mod RestLemmas
pub mod MethodLemmas
