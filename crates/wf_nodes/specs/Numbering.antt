-- The numbers of the nodes that bodies share (this project's own): in the order of their classes, methods, fields and array
-- types, and of the lines of the summary that copy elements.
use Rattle.std.specs.Prelude.{◌≡◌, ℕ, ◌+◌, Bool, false, ◌&&◌, ◌==◌, nat_lt, List, length, take, position, Option, Some, None, option_map, slice_index_or, if◌then◌else◌}
use Rattle.std.specs.List.{sum_by}
use Rattle.wf_base.specs.declared.ids.MethodId.{MethodId}
use Rattle.wf_base.specs.declared.ids.TypeId.{TypeId}
use Rattle.wf_rows.specs.declared.context.ArrayType.{ArrayType}
use Rattle.wf_rows.specs.declared.node.Node.{Node}
use Rattle.wf_rows.specs.declared.node.Node.TheVariants.{Inst, Start, Nothing, Initialized, Entered, Parameter, Returned, Held, Touched, Element, Copied, In}
use Rattle.wf_rows.specs.declared.node.Own.{Own}
use Rattle.wf_rows.specs.Nodes.{MethodNodes, Shared, method_nodes, no_nodes}

-- how many there are of the elements in front of a place
abbrev pub before : {A : Type 0} → (A → ℕ) → ℕ → List A → ℕ
before count n xs = sum_by count (take n xs)

-- how many nodes a method has that bodies share
abbrev pub method_count : MethodNodes → ℕ
method_count m = if m.entered then 1 + m.parameters + (if m.returned then 1 else 0) else 0

abbrev pub field_count : Bool → ℕ
field_count followed = if followed then 2 else 0

-- where the nodes of classes, of methods, of fields, of array types and of copying lines begin
abbrev pub first_class : ℕ
first_class = 3

abbrev pub first_method : Shared → ℕ
first_method s = first_class + s.classes

abbrev pub first_field : Shared → ℕ
first_field s = first_method s + sum_by method_count s.methods

abbrev pub first_array : Shared → ℕ
first_array s = first_field s + sum_by field_count s.fields

abbrev pub first_copy : Shared → ℕ
first_copy s = first_array s + length s.arrays

-- how many nodes bodies share
abbrev pub shared_count : Shared → ℕ
shared_count s = first_copy s + s.copies

abbrev pub some_if : Bool → ℕ → Option ℕ
some_if there n = if there then Some n else None

-- where the nodes of a method, and of a field, begin
abbrev pub method_first : Shared → MethodId → ℕ
method_first s m = first_method s + before method_count m.0 s.methods

abbrev pub field_first : Shared → ℕ → ℕ
field_first s f = first_field s + before field_count f s.fields

abbrev pub is_array : TypeId → ArrayType → Bool
is_array t u = t.0 == u.array.0

-- the number of a node that bodies share, where it is there
abbrev pub shared_number : Shared → Node Own → Option ℕ
shared_number s Inst = Some 0
shared_number s Start = Some 1
shared_number s Nothing = Some 2
shared_number s (Initialized c) = some_if (nat_lt c.0 s.classes) (first_class + c.0)
shared_number s (Entered m) = some_if (method_nodes s m).entered (method_first s m)
shared_number s (Parameter m i) = some_if ((method_nodes s m).entered && nat_lt i (method_nodes s m).parameters) (method_first s m + 1 + i)
shared_number s (Returned m) = some_if ((method_nodes s m).entered && (method_nodes s m).returned) (method_first s m + 1 + (method_nodes s m).parameters)
shared_number s (Held f) = some_if (slice_index_or s.fields f.0 false) (field_first s f.0)
shared_number s (Touched f) = some_if (slice_index_or s.fields f.0 false) (field_first s f.0 + 1)
shared_number s (Element t) = option_map (λ i. first_array s + i) (position (is_array t) s.arrays)
shared_number s (Copied line) = some_if (nat_lt line s.copies) (first_copy s + line)
shared_number s (In own) = None

-- a method that has no node of its entry has none
pub record AreWhole (s : Shared) : Type 0 where
  pub each : (m : MethodId) → (method_nodes s m).entered ≡ false → method_nodes s m ≡ no_nodes
