pub mod Known
pub mod Rule
