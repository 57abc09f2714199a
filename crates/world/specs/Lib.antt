pub mod Command
pub mod Load
pub mod Outcome
pub mod Output
pub mod Run
