pub mod Effects
pub mod Nexts
pub mod Operations
pub mod PoolSlots
pub mod Signatures
pub mod Slots
pub mod Sorts
