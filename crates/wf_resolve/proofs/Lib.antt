pub mod Climbing
pub mod FieldSearch
pub mod InterfaceChoice
pub mod InterfaceSweep
pub mod OneAnswer
pub mod Ranks
