pub mod Readers
pub mod Sizes
