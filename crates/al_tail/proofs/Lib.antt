pub mod Marks
pub mod Pasts
pub mod Lives
