pub mod Txn
pub mod Item
pub mod Form
pub mod Ids
pub mod Laws
pub mod Ranges
