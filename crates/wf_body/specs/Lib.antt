pub mod Each
pub mod Parts
pub mod Sources
pub mod Methods
pub mod Reading
