pub mod Places
pub mod Sums
pub mod Snaps
pub mod Rounds
pub mod Shows
pub mod Once
