pub mod TakeLemmas
pub mod ChainLemmas
pub mod MadeLemmas
pub mod TextLemmas
pub mod StopLemmas
pub mod PointLemmas
