pub mod ValueLaws
pub mod SystemLaws
pub mod WorldLaws
