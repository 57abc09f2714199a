pub mod OneThing
pub mod Refused
