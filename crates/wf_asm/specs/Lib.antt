pub mod Assembling
pub mod Building
pub mod Constants
pub mod Generating
pub mod Giving
pub mod Putting
