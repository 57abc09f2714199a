pub mod OneSelection
pub mod OverridingLaws
pub mod PackageWalk
