pub mod Walking
pub mod Behind
pub mod Taken
pub mod Reading
pub mod Saying
