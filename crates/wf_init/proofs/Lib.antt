mod OneOrder
pub mod Walking
