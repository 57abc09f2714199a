pub mod Words
pub mod Ints
pub mod Order
pub mod Meaning
pub mod Filters
pub mod Sets
