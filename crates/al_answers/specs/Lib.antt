pub mod HeaderFields
pub mod Json
pub mod Objects
pub mod Answers
