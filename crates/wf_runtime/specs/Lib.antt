pub mod Types
pub mod Summaries
pub mod Statics
pub mod Bodies
pub mod Calls
pub mod Runtime
pub mod Roots
pub mod Smallest
