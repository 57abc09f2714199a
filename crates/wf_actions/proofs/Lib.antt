pub mod Choosing
pub mod Components
