-- What numbers are looked up in (this project's own): the members of a program with their nodes and with the number at which
-- these begin.
use Rattle.std.specs.Prelude.{◌≡◌, ℕ, ◌+◌, ◌^◌, ◌<◌, Bool, false, List, [], ◌∷◌, ◌++◌, length, position, Option, Some, None, option_map, slice_get, slice_index_or}
use Rattle.std.specs.List.{sum_by}
use Rattle.std.specs.Option.{option_to_list}
use Rattle.wf_base.specs.declared.ids.TypeId.{TypeId}
use Rattle.wf_data.specs.declared.class_info.FieldInfo.{FieldInfo}
use Rattle.wf_data.specs.declared.class_info.MethodInfo.{MethodInfo}
use Rattle.wf_classes.specs.Own.{IsField, IsMethod}
use Rattle.wf_subtype.specs.declared.reference.Reference.{Reference}
use Rattle.wf_subtype.specs.References.{component_of}
use Rattle.wf_subtype.specs.Subtypes.{AllTypes, IsTargetOf}
use Rattle.wf_rows.specs.declared.context.ArrayType.{ArrayType}
use Rattle.wf_rows.specs.Nodes.{MethodNodes}
use Rattle.wf_nodes.specs.declared.fields.FieldPlace.{FieldPlace}
use Rattle.wf_nodes.specs.declared.methods.MethodPlace.{MethodPlace}
use Rattle.wf_nodes.specs.declared.methods.NodesOfMethod.{NodesOfMethod}
use Rattle.wf_nodes.specs.Numbering.{before, field_count, first_class, is_array, method_count}
use Rattle.wf_nodes.specs.Sharing.{AreNodesOf, IsFollowed}

-- ---- places

abbrev pub nodes_in : NodesOfMethod → MethodNodes
nodes_in n = record { entered = n.entered; parameters = n.parameters; returned = n.returned }

abbrev pub nodes_at : MethodPlace → MethodNodes
nodes_at p = nodes_in p.nodes

abbrev pub followed_at : FieldPlace → Bool
followed_at p = p.followed

abbrev pub method_begins : MethodPlace → ℕ
method_begins p = p.first

abbrev pub field_begins : FieldPlace → ℕ
field_begins p = p.first

abbrev pub count_at_method : MethodPlace → ℕ
count_at_method p = method_count (nodes_at p)

abbrev pub count_at_field : FieldPlace → ℕ
count_at_field p = field_count p.followed

-- of a method, and of a field, that isn't there
abbrev pub no_method : MethodPlace
no_method = record { first = 0; nodes = record { entered = false; parameters = 0; returned = false } }

abbrev pub no_field : FieldPlace
no_field = record { first = 0; followed = false }

-- the nodes of the elements stand one behind another from the number `first` up to `next`
pub record ArePlaced {P : Type 0} (begins count : P → ℕ) (first : ℕ) (places : List P) (next : ℕ) : Type 0 where
  pub each : (i : ℕ) (d : P) → i < length places → begins (slice_index_or places i d) ≡ first + before count i places
  pub next_is : next ≡ first + sum_by count places

-- ---- members

-- a method has these nodes
pub record IsMethodWith (types : AllTypes) (m : ℕ) (nodes : MethodNodes) : Type 0 where
  pub class : ℕ
  pub info : MethodInfo
  pub is : IsMethod types.classes m class info
  pub nodes_are : AreNodesOf info nodes

pub record IsFieldWith (types : AllTypes) (f : ℕ) (followed : Bool) : Type 0 where
  pub class : ℕ
  pub info : FieldInfo
  pub is : IsField types.classes f class info
  pub followed_is : IsFollowed info followed

-- the first n methods of a program, and the first n fields
pub record AreMethods (types : AllTypes) (n : ℕ) (places : List MethodPlace) : Type 0 where
  pub count : length places ≡ n
  pub each : (m : ℕ) → m < n → IsMethodWith types m (nodes_at (slice_index_or places m no_method))

pub record AreFields (types : AllTypes) (n : ℕ) (places : List FieldPlace) : Type 0 where
  pub count : length places ≡ n
  pub each : (f : ℕ) → f < n → IsFieldWith types f (followed_at (slice_index_or places f no_field))

-- ---- array types

-- the type at a place is this array of references, or none
abbrev pub IsArrayAt : AllTypes → ℕ → Option ArrayType → Type 0
IsArrayAt types n None = (r : Reference) × (slice_get types.references n ≡ Some r) × (component_of r ≡ None)
IsArrayAt types n (Some a) = (r : Reference) × (c : Reference) × (slice_get types.references n ≡ Some r) × (component_of r ≡ Some c) × IsTargetOf types a.component.0 c × (a.array.0 ≡ n + 1)

-- the place of each type among the array types, where it is one
pub record ArePlacesOfArrays (arrays : List ArrayType) (places : List (Option ℕ)) : Type 0 where
  pub each : (t : TypeId) → slice_index_or places t.0 None ≡ position (is_array t) arrays

-- one type more
pub record Goes (old : List ArrayType) (old_places : List (Option ℕ)) (found : Option ArrayType) (new : List ArrayType) (new_places : List (Option ℕ)) : Type 0 where
  pub arrays : new ≡ old ++ option_to_list found
  pub places : new_places ≡ old_places ++ option_map (λ _. length old) found ∷ []

-- ---- the whole

-- what the nodes that bodies share are kept with
pub record AreKept (classes : ℕ) (methods : List MethodPlace) (fields : List FieldPlace) (arrays : List ArrayType) (places : List (Option ℕ)) (copies first_array first_copy : ℕ) : Type 0 where
  pub methods_placed : ArePlaced method_begins count_at_method (first_class + classes) methods (first_class + classes + sum_by count_at_method methods)
  pub fields_placed : ArePlaced field_begins count_at_field (first_class + classes + sum_by count_at_method methods) fields first_array
  pub arrays_placed : ArePlacesOfArrays arrays places
  pub copy_is : first_copy ≡ first_array + length arrays
  pub small : first_copy + copies < 2 ^ 62
