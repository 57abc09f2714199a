-- Members of a program by their names, and lists in the order of names.
use Rattle.std.specs.Prelude.{◌≡◌, ℕ, List, Contains}
use Rattle.std.specs.declared.cmp.Ordering.{Ordering}
use Rattle.std.specs.Ordering.{nat_cmp, ordering_then}
use Rattle.std.specs.Cmp.Lexicographic.{slice_cmp}
use Rattle.std.specs.List.Sorted.{IsStrictlySortedBy}
use Rattle.wf_data.specs.declared.class_info.ClassInfo.{ClassInfo}
use Rattle.wf_data.specs.declared.class_info.FieldInfo.{FieldInfo}
use Rattle.wf_data.specs.declared.class_info.MethodInfo.{MethodInfo}
use Rattle.wf_names.specs.declared.member.MemberName.{MemberName}
use Rattle.wf_names.specs.declared.world.Unresolved.{Unresolved}
use Rattle.wf_names.specs.NameForm.{member_of}

-- a method's name, and a field's
abbrev pub method_name : ClassInfo → MethodInfo → MemberName
method_name class method = member_of class.name method.name method.desc

abbrev pub field_name : ClassInfo → FieldInfo → MemberName
field_name class field = member_of class.name field.name field.desc

-- a class of the program declares the method
pub record DeclaresMethod (program : List ClassInfo) (name : MemberName) : Type 0 where
  pub class : ClassInfo
  pub method : MethodInfo
  pub class_there : Contains program class
  pub method_there : Contains class.methods method
  pub named : name ≡ method_name class method

-- a class of the program declares the field
pub record DeclaresField (program : List ClassInfo) (name : MemberName) : Type 0 where
  pub class : ClassInfo
  pub field : FieldInfo
  pub class_there : Contains program class
  pub field_there : Contains class.fields field
  pub named : name ≡ field_name class field

-- the order of the bytes of a name
abbrev pub name_cmp : List ℕ → List ℕ → Ordering
name_cmp = slice_cmp nat_cmp

-- the order of members: by the class, then the name, then the descriptor
abbrev pub member_cmp : MemberName → MemberName → Ordering
member_cmp a b = ordering_then (name_cmp a.class b.class) (ordering_then (name_cmp a.name b.name) (name_cmp a.desc b.desc))

-- the order of places: by the method, then the place in its code
abbrev pub place_cmp : Unresolved → Unresolved → Ordering
place_cmp a b = ordering_then (member_cmp a.method b.method) (nat_cmp a.pc b.pc)

-- The list has exactly what P holds of, each once and in order.
pub record Lists {X : Type 0} (cmp : X → X → Ordering) (P : X → Type 0) (xs : List X) : Type 0 where
  pub in_order : IsStrictlySortedBy cmp xs
  pub only : (x : X) → Contains xs x → P x
  pub all : (x : X) → P x → Contains xs x
