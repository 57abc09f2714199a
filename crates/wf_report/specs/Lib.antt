pub mod Giving
pub mod Reading
pub mod Report
pub mod Worlds
