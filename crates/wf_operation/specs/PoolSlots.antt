-- What the places of a constant pool say of slots (JVMS 4.4).
use Rattle.std.specs.Prelude.{ℕ, Bool, true, false, ◌&&◌, List, length, take_while, Option, Some, None, option_and_then, slice_get, slice_index, ◌==◌, if◌then◌else◌}
use Rattle.wf_base.specs.declared.kind.Kind.{Kind}
use Rattle.wf_base.specs.declared.kind.Kind.TheVariants as kind
use Rattle.wf_data.specs.declared.class_info.PoolEntry.{PoolEntry}
use Rattle.wf_data.specs.declared.class_info.PoolEntry.TheVariants as entry
use Rattle.wf_data.specs.Pool.{text_at, name_type_in}
use Rattle.wf_descriptor.specs.Descriptors.{kind_of, is_field_descriptor}
use Rattle.wf_operation.specs.declared.sort.Call.{Call}
use Rattle.wf_operation.specs.declared.sort.Call.TheVariants.{Virtual, Special, Static, Interface}

-- whether values of a kind are followed (this project's own)
abbrev pub is_followed : Kind → Bool
is_followed kind.Int = true
is_followed kind.Long = true
is_followed kind.Ref = true
is_followed kind.Float = false
is_followed kind.Double = false

-- the kind of a constant that ldc takes (JVMS 6.5, ldc), but floats, method handles and method types
abbrev pub constant_kind : PoolEntry → Option Kind
constant_kind (entry.Integer n) = Some kind.Int
constant_kind (entry.Str text) = Some kind.Ref
constant_kind (entry.Class name) = Some kind.Ref
constant_kind e = None

-- the place of the name and the descriptor of a field
abbrev pub name_type_of_field : PoolEntry → Option ℕ
name_type_of_field (entry.Field class name_type) = Some name_type
name_type_of_field e = None

-- The place of the name and the descriptor of a method that is called so. invokespecial and invokestatic take a method
-- of a class or of an interface (JVMS 6.5, invokespecial).
abbrev pub name_type_of_method : Call → PoolEntry → Option ℕ
name_type_of_method Virtual (entry.Method class name_type) = Some name_type
name_type_of_method Special (entry.Method class name_type) = Some name_type
name_type_of_method Static (entry.Method class name_type) = Some name_type
name_type_of_method Special (entry.InterfaceMethod class name_type) = Some name_type
name_type_of_method Static (entry.InterfaceMethod class name_type) = Some name_type
name_type_of_method Interface (entry.InterfaceMethod class name_type) = Some name_type
name_type_of_method call e = None

-- the descriptor of the name and descriptor at a place
abbrev pub desc_at : List PoolEntry → ℕ → Option (List ℕ)
desc_at pool i = option_and_then (λ (places : ℕ × ℕ). text_at pool places.1) (option_and_then name_type_in (slice_get pool i))

-- the descriptor of the method that is called so by a place
abbrev pub method_desc_at : List PoolEntry → Call → ℕ → Option (List ℕ)
method_desc_at pool call i = option_and_then (desc_at pool) (option_and_then (name_type_of_method call) (slice_get pool i))

-- the descriptor of the field at a place
abbrev pub field_desc_at : List PoolEntry → ℕ → Option (List ℕ)
field_desc_at pool i = option_and_then (desc_at pool) (option_and_then name_type_of_field (slice_get pool i))

-- the kind of a field by its descriptor, if it is a descriptor and of a kind that is followed
abbrev pub followed_kind : List ℕ → Option Kind
followed_kind desc = if is_field_descriptor desc && is_followed (kind_of (slice_index desc 0)) then Some (kind_of (slice_index desc 0)) else None

-- the kind of the field at a place
abbrev pub field_kind_at : List PoolEntry → ℕ → Option Kind
field_kind_at pool i = option_and_then followed_kind (option_and_then (desc_at pool) (option_and_then name_type_of_field (slice_get pool i)))

-- how many dimensions the type of a name has (JVMS 4.4.1): the `[` that it begins with
abbrev pub dimensions : List ℕ → ℕ
dimensions name = length (take_while (λ b. b == 91) name)
