pub mod Fits
pub mod CountLemmas
pub mod Pages
pub mod PastLemmas
