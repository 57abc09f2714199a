pub mod Added
pub mod NumberLaws
pub mod Noting
