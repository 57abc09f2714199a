-- Lists of methods that are used as sets.
use Rattle.std.specs.Prelude.{◌≡◌, List}
use Rattle.wf_names.specs.declared.member.MemberName.{MemberName}
use Rattle.wf_first.specs.Calls.{has_member}

-- two lists have the same members
pub record HaveSame (a b : List MemberName) : Type 0 where
  pub same : (name : MemberName) → has_member a name ≡ has_member b name
