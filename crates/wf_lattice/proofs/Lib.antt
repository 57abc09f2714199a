pub mod BitLaws
pub mod RowLaws
pub mod OrderLaws
pub mod IntLaws
pub mod JoinLaws
pub mod FilterLaws
pub mod SetLaws
