pub mod Counts
pub mod PartsShown
pub mod Same
pub mod Meaning
pub mod Ranged
pub mod Within
pub mod Alike
