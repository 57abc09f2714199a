pub mod Listings
pub mod LogLaws
pub mod Paths
mod Walks
