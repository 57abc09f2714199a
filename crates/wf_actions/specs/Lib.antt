pub mod Actions
pub mod Literals
pub mod Named
pub mod Operands
