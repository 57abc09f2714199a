pub mod References
pub mod Subtypes
pub mod Universe
pub mod Rows
pub mod Laws
