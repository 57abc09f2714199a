pub mod BodyLaws
pub mod ClassLaws
pub mod ConstantLaws
pub mod GeneratedLaws
mod HeldLaws
pub mod LabelLaws
pub mod NameLaws
pub mod PuttingLaws
pub mod SizeLaws
mod SpelledLaws
mod SpelledMembers
mod SpelledNames
mod SpelledPool
