pub mod Bands
pub mod Counts
pub mod There
pub mod ArrayTypes
pub mod Lookups
pub mod Members
pub mod Placing
pub mod SharedFacts
