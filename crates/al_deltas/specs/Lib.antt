pub mod Queue
pub mod Index
pub mod Net
pub mod Laws
