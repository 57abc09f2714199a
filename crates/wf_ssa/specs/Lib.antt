pub mod Environments
pub mod Keeping
pub mod Laws
