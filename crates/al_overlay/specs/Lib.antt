pub mod Rules
pub mod Accounts
pub mod Held
pub mod Work
pub mod Creators
pub mod Flows
