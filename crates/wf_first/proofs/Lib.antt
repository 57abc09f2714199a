mod CodeLaws
mod Strip
mod ListLaws
mod PassLaws
pub mod FormKept
mod MemberLists
mod LeastWorld
mod NodeLaws
mod NumberLaws
mod Solving
mod PathLaws
mod RowLaws
mod FormLaws
mod RowNodes
mod StaticLaws
