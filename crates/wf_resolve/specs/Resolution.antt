-- The member that a name means, or the one error (JVMS 5.4.3.1 to 5.4.3.4).
use Rattle.std.specs.Prelude.{◌≡◌, ℕ, ◌-◌, Bool, true, false, not, ◌&&◌, ◌||◌, List, [], ◌∷◌, length, drop, take_while, Option, Some, None, Result, Ok, Err, is_some, nat_lt, ◌==◌, slice_index, slice_range, if◌then◌else◌}
use Rattle.wf_base.specs.declared.ids.FieldId.{FieldId}
use Rattle.wf_base.specs.declared.ids.MethodId.{MethodId}
use Rattle.wf_data.specs.declared.class_info.ClassInfo.{ClassInfo}
use Rattle.wf_descriptor.specs.Descriptors.{is_field_descriptor}
use Rattle.wf_grammar.specs.ClassFile.{Key}
use Rattle.wf_names.specs.Names.{object_name}
use Rattle.wf_names.specs.declared.world.LinkError.{LinkError}
use Rattle.wf_names.specs.declared.world.LinkError.TheVariants.{NoClassDefFound, NoSuchField, NoSuchMethod, IncompatibleClassChange}
use Rattle.wf_classes.specs.Members.{field_number, method_number}
use Rattle.wf_classes.specs.World.{class_of, kind_at}
use Rattle.wf_resolve.specs.Fields.{FieldOf}
use Rattle.wf_resolve.specs.Methods.{MethodOfClass, MethodOfInterface}

-- ---- what is loadable

-- an array's name begins with `[` (JVMS 4.4.1)
abbrev pub is_array_name : List ℕ → Bool
is_array_name [] = false
is_array_name (b ∷ name) = b == 91

abbrev pub dimensions : List ℕ → ℕ
dimensions name = length (take_while (λ b. b == 91) name)

-- the type of an array's elements, without any `[`
abbrev pub element_of : List ℕ → List ℕ
element_of name = drop (dimensions name) name

-- whether such a type is there: a class is where it is loadable
abbrev pub has_element : List ClassInfo → List ℕ → Bool
has_element classes element = if nat_lt (length element) 2 || not (slice_index element 0 == 76) then true else is_some (class_of classes (slice_range element 1 (length element - 1)))

-- An array type is loadable where it has at most 255 dimensions and its elements are primitive or of a loadable class
-- (JVMS 5.3.3).
abbrev pub is_loadable_array : List ClassInfo → List ℕ → Bool
is_loadable_array classes name = is_array_name name && (is_field_descriptor name && has_element classes (element_of name))

-- The class whose members a loadable class or array has: an array has those of java/lang/Object.
abbrev pub class_with : List ClassInfo → List ℕ → Option ℕ
class_with classes name = if is_array_name name then (if is_loadable_array classes name then class_of classes object_name else None) else class_of classes name

-- ---- the answers

-- The field that a class, a name and a descriptor mean (JVMS 5.4.3.2).
pub data Field (classes : List ClassInfo) (class : List ℕ) (key : Key) : Result FieldId LinkError → Type 0 where
  no_class : class_with classes class ≡ None → Field classes class key (Err NoClassDefFound)
  found : (c d : ℕ) (f : FieldId) → class_with classes class ≡ Some c → FieldOf classes key c (Some d) → field_number classes d key.0 key.1 ≡ Some f.0 → Field classes class key (Ok f)
  no_field : (c : ℕ) → class_with classes class ≡ Some c → FieldOf classes key c None → Field classes class key (Err NoSuchField)

-- The method of a class that they mean (JVMS 5.4.3.3).
pub data Method (classes : List ClassInfo) (class : List ℕ) (key : Key) : Result MethodId LinkError → Type 0 where
  no_class : class_with classes class ≡ None → Method classes class key (Err NoClassDefFound)
  of_interface : (c : ℕ) → class_with classes class ≡ Some c → kind_at classes c ≡ Some true → Method classes class key (Err IncompatibleClassChange)
  found : (c d : ℕ) (m : MethodId) → class_with classes class ≡ Some c → kind_at classes c ≡ Some false → MethodOfClass classes key c (Some d) → method_number classes d key.0 key.1 ≡ Some m.0 → Method classes class key (Ok m)
  no_method : (c : ℕ) → class_with classes class ≡ Some c → kind_at classes c ≡ Some false → MethodOfClass classes key c None → Method classes class key (Err NoSuchMethod)

-- The method of an interface that they mean (JVMS 5.4.3.4).
pub data InterfaceMethod (classes : List ClassInfo) (class : List ℕ) (key : Key) : Result MethodId LinkError → Type 0 where
  no_class : class_with classes class ≡ None → InterfaceMethod classes class key (Err NoClassDefFound)
  of_class : (c : ℕ) → class_with classes class ≡ Some c → kind_at classes c ≡ Some false → InterfaceMethod classes class key (Err IncompatibleClassChange)
  found : (c d : ℕ) (m : MethodId) → class_with classes class ≡ Some c → kind_at classes c ≡ Some true → MethodOfInterface classes key c (Some d) → method_number classes d key.0 key.1 ≡ Some m.0 → InterfaceMethod classes class key (Ok m)
  no_method : (c : ℕ) → class_with classes class ≡ Some c → kind_at classes c ≡ Some true → MethodOfInterface classes key c None → InterfaceMethod classes class key (Err NoSuchMethod)
