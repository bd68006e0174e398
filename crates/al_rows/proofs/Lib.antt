pub mod Keys
pub mod Maps
pub mod Views
pub mod Sames
pub mod Above
