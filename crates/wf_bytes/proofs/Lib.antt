pub mod Loops
pub mod Exact
pub mod Steady
pub mod Sources
