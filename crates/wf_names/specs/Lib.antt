pub mod Limits
pub mod Members
pub mod NameForm
pub mod Names
pub mod Words
