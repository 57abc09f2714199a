pub mod Initializers
pub mod Order
