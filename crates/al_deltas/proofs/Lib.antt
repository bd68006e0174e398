pub mod Queues
pub mod Searches
pub mod Applied
pub mod Indexes
pub mod Nets
