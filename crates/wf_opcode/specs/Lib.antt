pub mod Decoding
pub mod Instructions
pub mod Readers
pub mod Table
