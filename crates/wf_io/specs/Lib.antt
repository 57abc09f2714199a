pub mod Calls
pub mod Faults
pub mod InMemory
pub mod Log
pub mod RealFiles
pub mod Tree
