pub mod Bytes
pub mod Comparisons
pub mod Items
pub mod Text
