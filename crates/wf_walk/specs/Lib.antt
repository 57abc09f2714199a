pub mod File
pub mod Walk
