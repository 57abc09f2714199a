-- What a line of a summary or of a list of roots names, as the named class itself declares it (this project's own rule).
use Rattle.std.specs.Prelude.{ℕ, ◌-◌, Bool, true, false, not, ◌&&◌, ◌||◌, ◌==◌, nat_lt, List, [], ◌∷◌, ◌++◌, length, map, take, slice_get, slice_index, Option, Some, None, option_map, option_and_then, codes, if◌then◌else◌}
use Rattle.std.specs.Option.{option_map_or, is_none}
use Rattle.wf_base.specs.declared.kind.Kind.{Kind}
use Rattle.wf_base.specs.declared.kind.Kind.TheVariants.{Ref}
use Rattle.wf_classes.specs.Members.{method_number, field_number}
use Rattle.wf_classes.specs.Own.{method_flags, field_flags}
use Rattle.wf_classes.specs.World.{class_of}
use Rattle.wf_data.specs.Flags.{is_static, is_interface, is_abstract}
use Rattle.wf_data.specs.declared.class_info.ClassInfo.{ClassInfo}
use Rattle.wf_descriptor.specs.Descriptors.{is_letter, kind_of}
use Rattle.wf_descriptor.specs.declared.descriptor.FieldDesc.{FieldDesc}
use Rattle.wf_names.specs.declared.member.MemberName.{MemberName}

-- ---- members

-- the number of a method, and of a field
abbrev pub method_of : List ClassInfo → MemberName → Option ℕ
method_of classes m = option_and_then (λ c. method_number classes c m.name m.desc) (class_of classes m.class)

abbrev pub field_of : List ClassInfo → MemberName → Option ℕ
field_of classes f = option_and_then (λ c. field_number classes c f.name f.desc) (class_of classes f.class)

-- their access flags
abbrev pub flags_of_method : List ClassInfo → MemberName → Option ℕ
flags_of_method classes m = option_and_then (method_flags classes (m.name, m.desc)) (class_of classes m.class)

abbrev pub flags_of_field : List ClassInfo → MemberName → Option ℕ
flags_of_field classes f = option_and_then (field_flags classes (f.name, f.desc)) (class_of classes f.class)

-- the kind of what a field holds (JVMS table 4.3-A)
abbrev pub field_kind : MemberName → Kind
field_kind f = kind_of (slice_index f.desc 0)

-- the kinds of the arguments of a method: the receiver first, and each parameter counts one
abbrev pub argument_kinds : ℕ → List FieldDesc → List Kind
argument_kinds flags params = (if is_static flags then [] else Ref ∷ []) ++ map (λ (p : FieldDesc). p.kind) params

-- ---- types

-- the class of a name
abbrev pub class_named : List ClassInfo → List ℕ → Option ClassInfo
class_named classes name = option_and_then (slice_get classes) (class_of classes name)

abbrev pub is_class : List ClassInfo → List ℕ → Bool
is_class classes name = not (is_none (class_of classes name))

-- the name of a class that is there, and `;` behind it
abbrev pub is_ended_class : List ClassInfo → List ℕ → Bool
is_ended_class classes text = slice_index text (length text - 1) == 59 && is_class classes (take (length text - 1) text)

-- the innermost component of an array type: the letter of a primitive type, or `L`, a class and `;` (JVMS 4.3.2)
abbrev pub is_innermost : List ClassInfo → List ℕ → Bool
is_innermost classes [] = false
is_innermost classes (b ∷ text) = if b == 76 then is_ended_class classes text else is_letter b && length text == 0

-- the same with dimensions in front, of which so many are still allowed
abbrev pub is_component : List ClassInfo → ℕ → List ℕ → Bool
is_component classes dims [] = false
is_component classes dims (b ∷ text) = if b == 91 then nat_lt 0 dims && is_component classes (dims - 1) text else is_innermost classes (b ∷ text)

-- the descriptor of an array type: 1 to 255 dimensions of a primitive type or of a class that is there
abbrev pub is_array : List ClassInfo → List ℕ → Bool
is_array classes name = slice_index name 0 == 91 && is_component classes 255 name

-- a type that is there: a class by its name, or an array type by its descriptor
abbrev pub is_type : List ClassInfo → List ℕ → Bool
is_type classes name = is_class classes name || is_array classes name

-- whether objects of a class can be made
abbrev pub is_makeable : ClassInfo → Bool
is_makeable k = not (is_interface k.flags) && not (is_abstract k.flags)

-- the same of a type that is there: of each array, and of a class that is neither an interface nor abstract
abbrev pub can_be_made : List ClassInfo → List ℕ → Bool
can_be_made classes name = option_map_or is_makeable (class_named classes name) true
