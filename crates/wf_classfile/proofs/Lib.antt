pub mod CodeLaws
pub mod Lists
pub mod WriteLoops
pub mod MemberLaws
pub mod NumberLaws
