pub mod Assets
pub mod Sound
pub mod Kept
pub mod Effects
pub mod Finds
