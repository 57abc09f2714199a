pub mod Flags
pub mod Pool
pub mod Words
