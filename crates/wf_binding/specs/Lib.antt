pub mod Adding
pub mod First
pub mod Marks
pub mod Named
pub mod Numbering
pub mod Valid
pub mod Validity
