-- Which nodes the bodies of a program share (this project's own, after SkipFlow, CGO 2025), and the types of what the machine
-- throws.
use Rattle.std.specs.Prelude.{◌≡◌, ℕ, ◌+◌, ◌<◌, Bool, true, false, not, ◌||◌, List, [], ◌∷◌, ◌++◌, length, Option, Some, None, option_map, slice_get, slice_index_or, if◌then◌else◌}
use Rattle.std.specs.List.{list_any}
use Rattle.wf_base.specs.declared.ids.TargetId.{TargetId}
use Rattle.wf_base.specs.declared.ids.TypeId.{TypeId}
use Rattle.wf_data.specs.declared.class_info.FieldInfo.{FieldInfo}
use Rattle.wf_data.specs.declared.class_info.MethodInfo.{MethodInfo}
use Rattle.wf_data.specs.Flags.{is_abstract, is_static}
use Rattle.wf_descriptor.specs.declared.descriptor.FieldDesc.{FieldDesc}
use Rattle.wf_descriptor.specs.declared.descriptor.MethodDesc.{MethodDesc}
use Rattle.wf_descriptor.specs.Descriptors.{SpellsField, SpellsMethod, is_field_descriptor, is_method_descriptor}
use Rattle.wf_operation.specs.PoolSlots.{is_followed}
use Rattle.wf_classes.specs.Members.{field_keys, method_keys, member_count}
use Rattle.wf_classes.specs.Own.{IsField, IsMethod}
use Rattle.wf_subtype.specs.declared.reference.Reference.{Reference}
use Rattle.wf_subtype.specs.References.{component_of}
use Rattle.wf_subtype.specs.Subtypes.{AllTypes, IsTargetOf}
use Rattle.wf_subtype.specs.Universe.{type_of}
use Rattle.wf_rows.specs.declared.context.ArrayType.{ArrayType}
use Rattle.wf_rows.specs.declared.throwable.Throwable.{Throwable}
use Rattle.wf_rows.specs.Errors.{class_name}
use Rattle.wf_rows.specs.Nodes.{MethodNodes, Shared, no_nodes, method_nodes}

abbrev pub follows : FieldDesc → Bool
follows d = is_followed d.kind

-- a method returns a value that is followed, or none
abbrev pub returns_well : Option FieldDesc → Bool
returns_well (Some d) = follows d
returns_well None = true

abbrev pub receivers : ℕ → ℕ
receivers flags = if is_static flags then 0 else 1

-- the nodes of a method by its flags and its descriptor: none where it is abstract or has a float among its parameters
abbrev pub nodes_of_method : ℕ → MethodDesc → MethodNodes
nodes_of_method flags desc =
    if is_abstract flags || list_any (λ d. not (follows d)) desc.params then no_nodes
    else record { entered = true; parameters = receivers flags + length desc.params; returned = returns_well desc.ret }

-- the nodes of a method by its descriptor: none where that spells nothing
pub data AreNodesOf (info : MethodInfo) (nodes : MethodNodes) : Type 0 where
  spelled : (desc : MethodDesc) → SpellsMethod 255 info.desc desc → nodes ≡ nodes_of_method info.flags desc → AreNodesOf info nodes
  unspelled : is_method_descriptor 255 info.desc ≡ false → nodes ≡ no_nodes → AreNodesOf info nodes

pub record HasMethodNodes (types : AllTypes) (s : Shared) (m : ℕ) : Type 0 where
  pub class : ℕ
  pub info : MethodInfo
  pub is : IsMethod types.classes m class info
  pub nodes : AreNodesOf info (method_nodes s (record { 0 = m }))

-- whether a field has nodes, by its descriptor
pub data IsFollowed (info : FieldInfo) (followed : Bool) : Type 0 where
  spelled : (desc : FieldDesc) → SpellsField info.desc desc → followed ≡ follows desc → IsFollowed info followed
  unspelled : is_field_descriptor info.desc ≡ false → followed ≡ false → IsFollowed info followed

pub record HasFieldNodes (types : AllTypes) (s : Shared) (f : ℕ) : Type 0 where
  pub class : ℕ
  pub info : FieldInfo
  pub is : IsField types.classes f class info
  pub followed : IsFollowed info (slice_index_or s.fields f false)

-- the array types among the first types whose components are references, in their order
pub data AreArrays (types : AllTypes) : ℕ → List ArrayType → Type 0 where
  none : AreArrays types 0 []
  array : (n : ℕ) (xs : List ArrayType) (r c : Reference) (u : TargetId) → AreArrays types n xs → slice_get types.references n ≡ Some r → component_of r ≡ Some c → IsTargetOf types u.0 c
      → AreArrays types (n + 1) (xs ++ record { array = record { 0 = n + 1 }; component = u } ∷ [])
  other : (n : ℕ) (xs : List ArrayType) (r : Reference) → AreArrays types n xs → slice_get types.references n ≡ Some r → component_of r ≡ None → AreArrays types (n + 1) xs

-- what of a program says which nodes its bodies share, where so many lines of the summary copy elements
pub record IsShared (types : AllTypes) (copies : ℕ) (s : Shared) : Type 0 where
  pub classes : s.classes ≡ length types.classes
  pub methods_count : length s.methods ≡ member_count (method_keys types.classes)
  pub methods : (m : ℕ) → m < member_count (method_keys types.classes) → HasMethodNodes types s m
  pub fields_count : length s.fields ≡ member_count (field_keys types.classes)
  pub fields : (f : ℕ) → f < member_count (field_keys types.classes) → HasFieldNodes types s f
  pub arrays : AreArrays types (length types.names) s.arrays
  pub copied : s.copies ≡ copies

-- the type of what the machine throws, where it is a loadable class that has objects
abbrev pub thrown_type : AllTypes → Throwable → Option TypeId
thrown_type types error = option_map (λ t. record { 0 = t }) (type_of types.names (class_name error))
