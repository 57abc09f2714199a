pub mod DueLaws
pub mod EveryLaws
pub mod RunLaws
