pub mod WorkLaws
pub mod SolveLaws
pub mod OneIntLaws
