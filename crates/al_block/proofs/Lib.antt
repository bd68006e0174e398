pub mod Meaning
pub mod Same
pub mod Straight
pub mod Ranged
pub mod Lengths
pub mod Within
