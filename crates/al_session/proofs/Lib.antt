pub mod ReplyLemmas
pub mod TakingLemmas
pub mod ServeLemmas
pub mod FileLemmas
pub mod RunLemmas
pub mod WorkLemmas
pub mod EndLemmas
pub mod CutLemmas
