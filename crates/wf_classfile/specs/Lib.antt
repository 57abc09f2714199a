pub mod OnlyCode
pub mod Writers
pub mod Answers
pub mod InOrder
pub mod Met
pub mod Numbers
pub mod Places
