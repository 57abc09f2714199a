pub mod Numbering
pub mod Sharing
pub mod Tables
pub mod Thrown
