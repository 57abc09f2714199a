-- Members with their keys, in the order of these.
use Rattle.std.specs.Prelude.{◌≡◌, ℕ, List, map, slice_get, IsPermutation, Some}
use Rattle.std.specs.List.Sorted.{IsSorted}
use Rattle.wf_grammar.specs.ClassFile.{Key}
use Rattle.wf_classes.specs.Members.{key_cmp}
use Rattle.wf_classes.specs.declared.members.Keyed.{Keyed}
use Rattle.wf_classes.specs.declared.members.MemberPlace.{MemberPlace}

abbrev pub keyed_key : Keyed → Key
keyed_key k = (k.name.now, k.desc.now)

-- where a member of class c stands
abbrev pub place_of : ℕ → Keyed → MemberPlace
place_of c k = record { class = record { 0 = c }; index = k.index }

-- the members with these keys, each with its place among them, in the order of the keys
pub record IsKeyedList (keys : List Key) (sorted : List Keyed) : Type 0 where
  pub each : (x : ℕ) (k : Keyed) → slice_get sorted x ≡ Some k → slice_get keys k.index ≡ Some (keyed_key k)
  pub moved : IsPermutation keys (map keyed_key sorted)
  pub in_order : IsSorted key_cmp (map keyed_key sorted)
