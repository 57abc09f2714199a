pub mod Giving
pub mod Printing
pub mod Reading
pub mod Saying
pub mod Unnumbered
