pub mod Causes
pub mod Refusals
pub mod Blocks
pub mod Rooms
pub mod Slots
pub mod Calls
pub mod Held
pub mod Newest
