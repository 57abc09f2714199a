pub mod Bodies
pub mod Flow
pub mod BodyNodes
pub mod BodyRows
pub mod Numbering
pub mod MethodSystem
pub mod Faults
pub mod Programs
