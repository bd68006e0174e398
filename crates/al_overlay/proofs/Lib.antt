pub mod Firsts
pub mod Overlays
pub mod Places
pub mod Holds
pub mod Steps
pub mod Creators
pub mod Flows
