pub mod Tables
pub mod Parts
pub mod RowRecords
pub mod Ranges
pub mod Element
