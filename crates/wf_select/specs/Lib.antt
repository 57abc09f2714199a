pub mod Overriding
pub mod Packages
pub mod Selection
pub mod Walking
pub mod OfTypes
