pub mod Chain
pub mod Making
pub mod Summary
pub mod Catchpoints
