pub mod Name
pub mod Keys
pub mod Causes
pub mod Folders
pub mod Plans
