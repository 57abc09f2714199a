mod ClassLaws
mod PoolLaws
mod PoolSteady
mod SteadyLaws
pub mod WritableLaws
pub mod WritablePool
pub mod WritingLaws
pub mod Written
