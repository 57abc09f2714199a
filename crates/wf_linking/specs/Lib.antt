pub mod Linking
pub mod Symbolic
