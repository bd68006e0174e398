pub mod Stakes
pub mod Memory
pub mod Search
pub mod Laws
