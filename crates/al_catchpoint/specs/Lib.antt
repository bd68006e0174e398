pub mod Chains
pub mod Applying
pub mod Gathering
pub mod Showing
pub mod Faults
