-- How a closed world is kept (this project's own).
use Rattle.std.specs.Prelude.{◌≡◌, ℕ, ◌<◌, List, [], length, map, take, drop, slice_index, slice_index_or, slice_get, IsPermutation, Some}
use Rattle.std.specs.List.Sorted.{IsStrictlySortedBy}
use Rattle.wf_data.specs.declared.class_info.ClassInfo.{ClassInfo}
use Rattle.wf_grammar.specs.ClassFile.{Key}
use Rattle.wf_classes.specs.World.{number, number_in, superclass_of, superinterfaces_of}
use Rattle.wf_classes.specs.Members.{key_cmp, offset}
use Rattle.wf_classes.specs.declared.links.Link.{Link}
use Rattle.wf_classes.specs.declared.members.MemberPlace.{MemberPlace}

-- what stands above the class at a place
pub record IsLinkOf (classes : List ClassInfo) (c : ℕ) (link : Link) : Type 0 where
  pub superclass : number_in link.superclass ≡ superclass_of classes c
  pub superinterfaces : map number link.superinterfaces.items ≡ superinterfaces_of classes c

-- the links of the first n classes
pub record AreLinks (classes : List ClassInfo) (n : ℕ) (links : List Link) : Type 0 where
  pub count : length links ≡ n
  pub each : (c : ℕ) (link : Link) → slice_get links c ≡ Some link → IsLinkOf classes c link

-- the key of the member at a place of a class with these keys
abbrev pub key_at : List Key → MemberPlace → Key
key_at keys p = slice_index_or keys p.index ([], [])

-- the places of the members of class c in the order of their keys
pub record AreClassPlaces (keys : List Key) (c : ℕ) (places : List MemberPlace) : Type 0 where
  pub class : (x : ℕ) (p : MemberPlace) → slice_get places x ≡ Some p → number p.class ≡ c
  pub inside : (x : ℕ) (p : MemberPlace) → slice_get places x ≡ Some p → p.index < length keys
  pub moved : IsPermutation keys (map (key_at keys) places)
  pub ascending : IsStrictlySortedBy key_cmp (map (key_at keys) places)

-- the places of class c among those of all classes
abbrev pub places_of : List (List Key) → List MemberPlace → ℕ → List MemberPlace
places_of keys places c = take (length (slice_index_or keys c [])) (drop (offset keys c) places)

-- The members of the first n classes in the order of their numbers, and the number of the first member of each
-- class.
pub record AreMembers (keys : List (List Key)) (n : ℕ) (first : List ℕ) (places : List MemberPlace) : Type 0 where
  pub firsts : length first ≡ n
  pub first_is : (c : ℕ) → c < n → slice_index first c ≡ offset keys c
  pub count : length places ≡ offset keys n
  pub each : (c : ℕ) → c < n → AreClassPlaces (slice_index_or keys c []) c (places_of keys places c)
