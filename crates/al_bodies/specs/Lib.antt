pub mod Kept
pub mod Bodies
pub mod Effect
pub mod Ranges
