pub mod Lives
pub mod Listed
pub mod Slotted
pub mod Newests
