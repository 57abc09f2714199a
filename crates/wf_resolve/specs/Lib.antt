pub mod Fields
pub mod Inherited
pub mod Instructions
pub mod Methods
pub mod Reaching
pub mod Resolution
pub mod Upward
