pub mod Exactness
pub mod Grammar
pub mod Place
pub mod Reading
pub mod Source
pub mod Words
