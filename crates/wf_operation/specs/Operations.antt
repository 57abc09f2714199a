-- What an instruction does, by its sort, its operands and what the pool says of them (JVMS 6.5). It does nothing where
-- an operand is wrong: an entry of another sort than the instruction needs, a descriptor that is none, a number of
-- dimensions that its type doesn't have.
use Rattle.std.specs.Prelude.{ℕ, ℤ, pos, negsuc, Bool, true, false, not, ◌&&◌, List, [], ◌∷◌, ◌++◌, length, replicate, Option, Some, None, is_some, option_and_then, option_map, slice_get, ◌==◌, nat_lt, nat_le, if◌then◌else◌}
use Rattle.wf_base.specs.declared.kind.Kind.{Kind}
use Rattle.wf_base.specs.declared.kind.Kind.TheVariants as kind
use Rattle.wf_data.specs.declared.class_info.PoolEntry.{PoolEntry}
use Rattle.wf_data.specs.declared.class_info.PoolEntry.TheVariants as entry
use Rattle.wf_data.specs.declared.instr.Instr.{Instr}
use Rattle.wf_data.specs.Pool.{class_at}
use Rattle.wf_descriptor.specs.Descriptors.{is_method_descriptor}
use Rattle.wf_opcode.specs.Instructions.{place_of}
use Rattle.wf_operation.specs.declared.slot.SlotKind.{SlotKind}
use Rattle.wf_operation.specs.declared.slot.SlotKind.TheVariants.{Int, Ref, Long, LongRest}
use Rattle.wf_operation.specs.declared.sort.Sort.{Sort}
use Rattle.wf_operation.specs.declared.sort.Sort.TheVariants as sort
use Rattle.wf_operation.specs.declared.sort.Element.{Element}
use Rattle.wf_operation.specs.declared.sort.Call.{Call}
use Rattle.wf_operation.specs.declared.effect.Effect.{Effect}
use Rattle.wf_operation.specs.declared.effect.Effect.TheVariants.{Acts, Loads, Stores, Increments, Shuffles}
use Rattle.wf_operation.specs.declared.next.Test.TheVariants.{ToZero, Ints, Refs, ToNull}
use Rattle.wf_operation.specs.declared.next.Next.{Next}
use Rattle.wf_operation.specs.declared.next.Next.TheVariants.{Falls, Jumps, Branches, Switches, Returns, Throws}
use Rattle.wf_operation.specs.declared.operation.Operation.{Operation}
use Rattle.wf_operation.specs.declared.operation.Link.{Link}
use Rattle.wf_operation.specs.declared.operation.Link.TheVariants.{Plain, Calls, Tests}
use Rattle.wf_operation.specs.PoolSlots.{constant_kind, method_desc_at, field_kind_at, dimensions}
use Rattle.wf_operation.specs.Signatures.{result_slots, signature_of}
use Rattle.wf_operation.specs.Slots.{slots_of}
use Rattle.wf_operation.specs.Sorts.{sort_of, kind_of_element}

-- the slots of a long
abbrev pub long : List SlotKind
long = Long ∷ LongRest ∷ []

-- a reference, and behind it a value
abbrev pub behind_ref : Kind → List SlotKind
behind_ref k = Ref ∷ slots_of k

-- an array, an index, and behind them an element
abbrev pub stored_slots : Element → List SlotKind
stored_slots e = Ref ∷ Int ∷ slots_of (kind_of_element e)

-- of constants, array elements, arithmetic and conversions
abbrev pub value_effect : Sort → Option Effect
value_effect sort.NullConstant = Some (Acts [] (Ref ∷ []))
value_effect sort.IntConstant = Some (Acts [] (Int ∷ []))
value_effect sort.LongConstant = Some (Acts [] long)
value_effect (sort.ArrayLoad e) = Some (Acts (Ref ∷ Int ∷ []) (slots_of (kind_of_element e)))
value_effect (sort.ArrayStore e) = Some (Acts (stored_slots e) [])
value_effect (sort.IntArithmetic a) = Some (Acts (Int ∷ Int ∷ []) (Int ∷ []))
value_effect (sort.IntShift s) = Some (Acts (Int ∷ Int ∷ []) (Int ∷ []))
value_effect (sort.LongArithmetic a) = Some (Acts (long ++ long) long)
value_effect (sort.LongShift s) = Some (Acts (long ++ Int ∷ []) long)
value_effect sort.IntNegate = Some (Acts (Int ∷ []) (Int ∷ []))
value_effect (sort.Narrow n) = Some (Acts (Int ∷ []) (Int ∷ []))
value_effect sort.LongNegate = Some (Acts long long)
value_effect sort.IntToLong = Some (Acts (Int ∷ []) long)
value_effect sort.LongToInt = Some (Acts long (Int ∷ []))
value_effect sort.CompareLongs = Some (Acts (long ++ long) (Int ∷ []))
value_effect other = None

-- of branches, returns, and objects of which the pool says nothing
abbrev pub control_effect : Sort → Option Effect
control_effect sort.Nothing = Some (Acts [] [])
control_effect sort.Jump = Some (Acts [] [])
control_effect sort.ReturnNothing = Some (Acts [] [])
control_effect (sort.CompareToZero c) = Some (Acts (Int ∷ []) [])
control_effect sort.Switch = Some (Acts (Int ∷ []) [])
control_effect (sort.CompareInts c) = Some (Acts (Int ∷ Int ∷ []) [])
control_effect (sort.CompareRefs e) = Some (Acts (Ref ∷ Ref ∷ []) [])
control_effect (sort.CompareToNull e) = Some (Acts (Ref ∷ []) [])
control_effect sort.Throw = Some (Acts (Ref ∷ []) [])
control_effect sort.EnterMonitor = Some (Acts (Ref ∷ []) [])
control_effect sort.ExitMonitor = Some (Acts (Ref ∷ []) [])
control_effect (sort.Return k) = Some (Acts (slots_of k) [])
control_effect sort.NewArray = Some (Acts (Int ∷ []) (Ref ∷ []))
control_effect sort.ArrayLength = Some (Acts (Ref ∷ []) (Int ∷ []))
control_effect other = None

-- of a call, by the descriptor of its method: the receiver and the parameters for the result, where the descriptor is
-- one and has only kinds that are followed
abbrev pub called_effect : Call → List ℕ → Option Effect
called_effect call desc =
    if is_method_descriptor 255 desc && (signature_of call desc).followed
    then Some (Acts (signature_of call desc).takes (result_slots (signature_of call desc).gives)) else None

-- a value of this kind in place of the slots that are taken
abbrev pub giving : List SlotKind → Kind → Effect
giving takes k = Acts takes (slots_of k)

-- a value of this kind is taken
abbrev pub taking : Kind → Effect
taking k = Acts (slots_of k) []

-- a reference and behind it a value of this kind are taken
abbrev pub taking_behind : Kind → Effect
taking_behind k = Acts (behind_ref k) []

-- the kind of the constant that ldc2_w takes, but doubles
abbrev pub long_kind : PoolEntry → Option Kind
long_kind (entry.Long n) = Some kind.Long
long_kind e = None

-- of an instruction that needs a class at a place
abbrev pub class_effect : List PoolEntry → ℕ → List SlotKind → List SlotKind → Option Effect
class_effect pool place takes gives = if is_some (class_at pool place) then Some (Acts takes gives) else None

-- of an anewarray of elements of this name: an array has at most 255 dimensions (JVMS 4.3.2)
abbrev pub array_effect : List ℕ → Option Effect
array_effect name = if nat_lt (dimensions name) 255 then Some (Acts (Int ∷ []) (Ref ∷ [])) else None

-- of a multianewarray of a type of this name, with so many lengths: at least one, and one for a dimension
abbrev pub many_effect : ℤ → List ℕ → Option Effect
many_effect (pos n) name = if nat_lt 0 n && nat_le n (dimensions name) then Some (Acts (replicate n Int) (Ref ∷ [])) else None
many_effect (negsuc n) name = None

-- of an instruction that needs an entry at a place of the pool
abbrev pub pool_effect : List PoolEntry → ℕ → ℤ → Sort → Option Effect
pool_effect pool place b sort.PoolConstant = option_map (giving []) (option_and_then constant_kind (slice_get pool place))
pool_effect pool place b sort.PoolLong = option_map (giving []) (option_and_then long_kind (slice_get pool place))
pool_effect pool place b sort.GetStatic = option_map (giving []) (field_kind_at pool place)
pool_effect pool place b sort.PutStatic = option_map taking (field_kind_at pool place)
pool_effect pool place b sort.GetField = option_map (giving (Ref ∷ [])) (field_kind_at pool place)
pool_effect pool place b sort.PutField = option_map taking_behind (field_kind_at pool place)
pool_effect pool place b (sort.Invoke call) = option_and_then (called_effect call) (method_desc_at pool call place)
pool_effect pool place b sort.New = class_effect pool place [] (Ref ∷ [])
pool_effect pool place b sort.Cast = class_effect pool place (Ref ∷ []) (Ref ∷ [])
pool_effect pool place b sort.InstanceOf = class_effect pool place (Ref ∷ []) (Int ∷ [])
pool_effect pool place b sort.NewRefArray = option_and_then array_effect (class_at pool place)
pool_effect pool place b sort.NewManyArray = option_and_then (many_effect b) (class_at pool place)
pool_effect pool place b other = None

-- the first of two that is there
abbrev pub or_else : Option Effect → Option Effect → Option Effect
or_else (Some e) f = Some e
or_else None f = f

-- what an instruction does that takes operands off the stack and puts a value in their place
abbrev pub acting_effect : List PoolEntry → Instr → Sort → Option Effect
acting_effect pool i s = or_else (value_effect s) (or_else (control_effect s) (option_and_then (λ place. pool_effect pool place i.b s) (place_of i.a)))

-- what an instruction of this sort does with slots
abbrev pub effect_of : List PoolEntry → Instr → Sort → Option Effect
effect_of pool i (sort.Load k) = option_map (Loads k) (place_of i.a)
effect_of pool i (sort.Store k) = option_map (Stores k) (place_of i.a)
effect_of pool i sort.Increment = option_map Increments (place_of i.a)
effect_of pool i (sort.Shuffle s) = Some (Shuffles s)
effect_of pool i s = acting_effect pool i s

-- where it leads
abbrev pub next_of : Instr → Sort → Option Next
next_of i (sort.CompareToZero c) = option_map (Branches (ToZero c)) (place_of i.a)
next_of i (sort.CompareInts c) = option_map (Branches (Ints c)) (place_of i.a)
next_of i (sort.CompareRefs e) = option_map (Branches (Refs e)) (place_of i.a)
next_of i (sort.CompareToNull e) = option_map (Branches (ToNull e)) (place_of i.a)
next_of i sort.Jump = option_map Jumps (place_of i.a)
next_of i sort.Switch = option_map (Switches i.cases) (place_of i.a)
next_of i (sort.Return k) = Some (Returns (Some k))
next_of i sort.ReturnNothing = Some (Returns None)
next_of i sort.Throw = Some Throws
next_of i s = Some Falls

abbrev pub operation_with : Sort → Effect → Next → Operation
operation_with s e n = record { sort = s; effect = e; next = n }

-- what an instruction of this sort does
abbrev pub operation_for : List PoolEntry → Instr → Sort → Option Operation
operation_for pool i s = option_and_then (λ e. option_map (operation_with s e) (next_of i s)) (effect_of pool i s)

-- what an instruction does
abbrev pub operation_of : List PoolEntry → Instr → Option Operation
operation_of pool i = option_and_then (operation_for pool i) (sort_of i.op)

-- what it means for the places behind an instruction that it resolves, or fails to
abbrev pub link_of : Sort → Link
link_of (sort.Invoke call) = Calls
link_of sort.Cast = Tests
link_of sort.InstanceOf = Tests
link_of s = Plain

-- whether an instruction gives a value that wasn't there
abbrev pub effect_gives : Effect → Bool
effect_gives (Acts takes gives) = not (length gives == 0)
effect_gives (Increments local) = true
effect_gives e = false

abbrev pub gives_value : Operation → Bool
gives_value o = effect_gives o.effect
