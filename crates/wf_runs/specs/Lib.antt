pub mod Due
pub mod Every
pub mod Faults
pub mod Lines
pub mod Run
