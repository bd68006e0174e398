pub mod Draws
pub mod Fits
pub mod Genesis
pub mod Items
pub mod Turns
