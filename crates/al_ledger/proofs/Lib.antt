pub mod Creators
pub mod DataRounds
pub mod Evaluations
pub mod Flushes
pub mod Looks
pub mod Spelled
pub mod Stands
pub mod Steps
