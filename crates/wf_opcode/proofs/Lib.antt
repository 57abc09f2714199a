pub mod InstructionLaws
pub mod Loops
pub mod TableLaws
