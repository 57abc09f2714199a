pub mod OwnNumbers
pub mod Places
