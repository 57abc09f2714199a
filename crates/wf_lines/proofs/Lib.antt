pub mod Cutting
pub mod DecimalLaws
pub mod Digits
pub mod MemberLaws
pub mod WordLaws
