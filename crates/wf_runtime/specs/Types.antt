-- What the machine looks up of types, told by what their names mean (JVMS 2.2 to 2.4).
use Rattle.std.specs.Prelude.{◌≡◌, ℕ, ◌-◌, ◌==◌, ◌||◌, Bool, false, not, List, Option, Some, None, option_and_then, slice_get, slice_index, if◌then◌else◌}
use Rattle.std.specs.Option.{option_map_or}
use Rattle.wf_base.specs.declared.ids.FieldId.{FieldId}
use Rattle.wf_base.specs.declared.ids.TypeId.{TypeId}
use Rattle.wf_base.specs.declared.kind.Kind.{Kind}
use Rattle.wf_base.specs.declared.kind.Kind.TheVariants.{Ref}
use Rattle.wf_data.specs.declared.class_info.FieldInfo.{FieldInfo}
use Rattle.wf_data.specs.Flags.{is_static}
use Rattle.wf_descriptor.specs.Descriptors.{kind_of}
use Rattle.wf_operation.specs.declared.sort.Element.{Element}
use Rattle.wf_operation.specs.declared.sort.Element.TheVariants as element
use Rattle.wf_classes.specs.Above.{IsAbove}
use Rattle.wf_classes.specs.Own.{IsField}
use Rattle.wf_subtype.specs.declared.reference.Inner.{Inner}
use Rattle.wf_subtype.specs.declared.reference.Inner.TheVariants.{Class, Primitive}
use Rattle.wf_subtype.specs.declared.reference.Reference.{Reference}
use Rattle.wf_subtype.specs.References.{letters, component_of}
use Rattle.wf_subtype.specs.Subtypes.{AllTypes, IsUnder, IsSubtype, IsTargetFound}
use Rattle.wf_machine.specs.Values.{Value, Null, zero_of}

-- the class or the array that a type is; null is none
abbrev pub reference_of : AllTypes → TypeId → Option Reference
reference_of types t = if t.0 == 0 then None else slice_get types.references (t.0 - 1)

-- ---- arrays

abbrev pub has_dimensions : Reference → Bool
has_dimensions r = not (r.dims == 0)

-- whether a type is an array
abbrev pub is_array : AllTypes → TypeId → Bool
is_array types t = option_map_or has_dimensions (reference_of types t) false

-- The elements of arrays of a primitive type, by its letter, as instructions take them: those of boolean are bytes, and those of
-- float and double are not followed (JVMS 6.5, baload; own rule).
abbrev pub element_of_letter : ℕ → Option Element
element_of_letter b = if b == 73 then Some element.Int else if b == 66 || b == 90 then Some element.Byte else if b == 67 then Some element.Char else if b == 83 then Some element.Short else if b == 74 then Some element.Long else None

abbrev pub inner_element : Inner → Option Element
inner_element (Class c) = Some element.Ref
inner_element (Primitive p) = option_and_then element_of_letter (slice_get letters p)

abbrev pub element_of : Reference → Option Element
element_of r = if r.dims == 0 then None else if r.dims == 1 then inner_element r.inner else Some element.Ref

-- the elements of arrays of a type
abbrev pub element_of_type : AllTypes → TypeId → Option Element
element_of_type types t = option_and_then element_of (reference_of types t)

abbrev pub inner_kind : Inner → Kind
inner_kind (Class c) = Ref
inner_kind (Primitive p) = kind_of (slice_index letters p)

-- the kind of the elements of an array (JVMS table 4.3-A)
abbrev pub component_kind : Reference → Kind
component_kind r = if r.dims == 1 then inner_kind r.inner else Ref

-- what an element of a new array holds (JVMS 2.3, 2.4)
abbrev pub first_element : AllTypes → TypeId → Value
first_element types t = option_map_or (λ r. zero_of (component_kind r)) (reference_of types t) Null

-- Objects of the second type may be elements of arrays of the first: they are under its component (JVMS 6.5, aastore).
pub record MayHold (types : AllTypes) (array t : TypeId) : Type 0 where
  pub component : Reference
  pub of_array : option_and_then component_of (reference_of types array) ≡ Some component
  pub element : Reference
  pub of_type : reference_of types t ≡ Some element
  pub under : IsUnder types.classes element.dims element.inner component.dims component.inner

-- ---- fields

abbrev pub class_reference : ℕ → Reference
class_reference c = record { dims = 0; inner = Class (record { 0 = c }) }

abbrev pub kind_of_field : FieldInfo → Kind
kind_of_field f = kind_of (slice_index f.desc 0)

-- Objects of a class have the instance fields that the class, its superclasses and its superinterfaces declare; arrays have none
-- (own rule, after JVMS 2.4, 4.5).
pub record HasField (types : AllTypes) (t : TypeId) (f : FieldId) (kind : Kind) : Type 0 where
  pub class : ℕ
  pub of_type : reference_of types t ≡ Some (class_reference class)
  pub declaring : ℕ
  pub info : FieldInfo
  pub is : IsField types.classes f.0 declaring info
  pub above : IsAbove types.classes class declaring
  pub instance : is_static info.flags ≡ false
  pub kind_is : kind ≡ kind_of_field info

-- what a field of a new object holds, where its type has the field (JVMS 2.3, 2.4)
abbrev pub IsFirstValue : AllTypes → TypeId → FieldId → Option Value → Type 0
IsFirstValue types t f (Some v) = (kind : Kind) × HasField types t f kind × (v ≡ zero_of kind)
IsFirstValue types t f None = (kind : Kind) → HasField types t f kind → ⊥

-- ---- names

-- a type is under the class of this name
pub record IsUnderNamed (types : AllTypes) (t : TypeId) (name : List ℕ) : Type 0 where
  pub target : ℕ
  pub found : IsTargetFound types name (Some target)
  pub under : IsSubtype types t.0 target
