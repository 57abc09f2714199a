pub mod ClassFile
pub mod Reading
pub mod Writing
