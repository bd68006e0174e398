pub mod Digests
pub mod Base32
pub mod Texts
pub mod Reading
