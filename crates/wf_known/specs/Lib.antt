pub mod Flows
pub mod Fronts
