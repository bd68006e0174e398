pub mod Root
pub mod Slots
pub mod Kids
pub mod Arena
pub mod Spelling
pub mod Tries
pub mod Whole
