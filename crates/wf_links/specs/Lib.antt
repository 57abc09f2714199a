pub mod Callees
pub mod Candidates
pub mod Sites
