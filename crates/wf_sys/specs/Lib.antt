pub mod Values
pub mod System
pub mod Names
pub mod Nodes
pub mod Program
pub mod WorldOf
pub mod Assignments
