-- The worlds that have a text (this project's own).
use Rattle.std.specs.Prelude.{◌≡◌, ℕ, ◌^◌, ◌<◌, Bool, true, false, ◌&&◌, ◌||◌, List, [], ◌∷◌, ◌==◌}
use Rattle.std.specs.Cmp.Lexicographic.{slice_cmp}
use Rattle.std.specs.List.{AllByRecursion}
use Rattle.std.specs.List.Sorted.{IsStrictlySortedBy}
use Rattle.std.specs.declared.cmp.Ordering.{Ordering}
use Rattle.std.specs.Ordering.{nat_cmp, ordering_then}
use Rattle.wf_base.specs.Bytes.{IsBytes}
use Rattle.wf_descriptor.specs.Descriptors.{is_field_descriptor, is_method_descriptor}
use Rattle.wf_names.specs.declared.member.MemberName.{MemberName}
use Rattle.wf_names.specs.declared.world.Unresolved.{Unresolved}
use Rattle.wf_names.specs.declared.world.World.{World}
use Rattle.wf_names.specs.Names.{is_class_name, is_field_name, is_method_name}

-- ---- names

abbrev pub is_array : List ℕ → Bool
is_array [] = false
is_array (b ∷ name) = b == 91

-- a type: the name of a class (JVMS 4.2.1), or the descriptor of an array (JVMS 4.3.2)
abbrev pub is_type_name : List ℕ → Bool
is_type_name name = is_class_name name || (is_array name && is_field_descriptor name)

-- a method that a class file may have (JVMS 4.2.2, 4.3.3)
abbrev pub is_method : MemberName → Bool
is_method m = is_class_name m.class && (is_method_name m.name && is_method_descriptor 255 m.desc)

-- a field that a class file may have (JVMS 4.2.2, 4.3.2)
abbrev pub is_field : MemberName → Bool
is_field m = is_class_name m.class && (is_field_name m.name && is_field_descriptor m.desc)

abbrev pub is_place : Unresolved → Bool
is_place u = is_method u.method

-- ---- orders

-- the bytes of names
abbrev pub name_cmp : List ℕ → List ℕ → Ordering
name_cmp a b = slice_cmp nat_cmp a b

-- members by their classes, then by their names, then by their descriptors
abbrev pub member_cmp : MemberName → MemberName → Ordering
member_cmp a b = ordering_then (name_cmp a.class b.class) (ordering_then (name_cmp a.name b.name) (name_cmp a.desc b.desc))

-- places by their methods, then by their place in the code
abbrev pub place_cmp : Unresolved → Unresolved → Ordering
place_cmp a b = ordering_then (member_cmp a.method b.method) (nat_cmp a.pc b.pc)

-- ---- worlds

-- a list of a report: each entry is allowed, and they ascend, so that each stands once
pub record IsListing {X : Type 0} (is : X → Bool) (cmp : X → X → Ordering) (xs : List X) : Type 0 where
  pub allowed : AllByRecursion (λ x. is x ≡ true) xs
  pub ascend : IsStrictlySortedBy cmp xs

-- a world that has a text: its four lists are such lists
pub record HasText (world : World) : Type 0 where
  pub types : IsListing is_type_name name_cmp world.types
  pub methods : IsListing is_method member_cmp world.methods
  pub fields : IsListing is_field member_cmp world.fields
  pub unresolved : IsListing is_place place_cmp world.unresolved

-- Each name is made of bytes, and each place in a code is below 65536. So it is in each world that is held.
pub record IsMemberOfBytes (m : MemberName) : Type 0 where
  pub class : IsBytes m.class
  pub name : IsBytes m.name
  pub desc : IsBytes m.desc

pub record IsPlaceOfBytes (u : Unresolved) : Type 0 where
  pub method : IsMemberOfBytes u.method
  pub pc : u.pc < 2 ^ 16

pub record IsOfBytes (world : World) : Type 0 where
  pub types : AllByRecursion IsBytes world.types
  pub methods : AllByRecursion IsMemberOfBytes world.methods
  pub fields : AllByRecursion IsMemberOfBytes world.fields
  pub unresolved : AllByRecursion IsPlaceOfBytes world.unresolved
