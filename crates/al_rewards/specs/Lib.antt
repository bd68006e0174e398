pub mod Next
pub mod Pending
pub mod Totals
pub mod Record
