pub mod Said
pub mod Reading
pub mod Plans
pub mod Answers
pub mod Kept
pub mod Raising
pub mod TwoInts
