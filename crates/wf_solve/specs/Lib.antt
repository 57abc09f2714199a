pub mod Work
pub mod Solving
pub mod OneInt
