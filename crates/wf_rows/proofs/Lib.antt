pub mod Adding
pub mod Listed
pub mod Membership
pub mod Numbered
pub mod Targets
