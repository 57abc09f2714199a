-- Small programs, on which the machine is tried. Each instruction has a place of its own, one behind another; method m has
-- the body m of a list, and what types, fields and classes are is what each program says.
use Rattle.std.specs.Prelude.{ℕ, ◌+◌, ℤ, pos, true, false, List, [], ◌∷◌, length, slice_get, slice_index_or, Option, Some, None, Ok, Err, ◌==◌, nat_lt, if◌then◌else◌}
use Rattle.wf_base.specs.declared.cmp.Cmp.TheVariants.{Eq}
use Rattle.wf_base.specs.declared.ids.ClassId.{ClassId}
use Rattle.wf_base.specs.declared.ids.FieldId.{FieldId}
use Rattle.wf_base.specs.declared.ids.MethodId.{MethodId}
use Rattle.wf_base.specs.declared.ids.TargetId.{TargetId}
use Rattle.wf_base.specs.declared.ids.TypeId.{TypeId}
use Rattle.wf_base.specs.declared.kind.Kind.TheVariants as kind
use Rattle.wf_operation.specs.declared.effect.Effect.{Effect}
use Rattle.wf_operation.specs.declared.effect.Effect.TheVariants.{Acts, Loads, Stores, Increments, Shuffles}
use Rattle.wf_operation.specs.declared.next.Next.{Next}
use Rattle.wf_operation.specs.declared.next.Next.TheVariants as next
use Rattle.wf_operation.specs.declared.next.Test.TheVariants.{ToZero}
use Rattle.wf_operation.specs.declared.slot.SlotKind.{SlotKind}
use Rattle.wf_operation.specs.declared.slot.SlotKind.TheVariants as slot
use Rattle.wf_operation.specs.declared.sort.Arithmetic.TheVariants as arithmetic
use Rattle.wf_operation.specs.declared.sort.Call.TheVariants as call
use Rattle.wf_operation.specs.declared.sort.Element.TheVariants as element
use Rattle.wf_operation.specs.declared.sort.Shuffle.TheVariants as shuffle
use Rattle.wf_operation.specs.declared.sort.Sort.{Sort}
use Rattle.wf_operation.specs.declared.sort.Sort.TheVariants as sort
use Rattle.wf_rows.specs.declared.action.Action.{Action}
use Rattle.wf_rows.specs.declared.action.Action.TheVariants as action
use Rattle.wf_rows.specs.declared.action.ArrayUse.TheVariants as use_of
use Rattle.wf_rows.specs.declared.action.Computation.TheVariants as computation
use Rattle.wf_rows.specs.declared.action.FieldUse.TheVariants as field
use Rattle.wf_rows.specs.declared.action.Literal.{Literal}
use Rattle.wf_rows.specs.declared.action.Making.TheVariants as making
use Rattle.wf_rows.specs.declared.action.StatedValue.TheVariants as stated
use Rattle.wf_rows.specs.declared.action.TypeTest.TheVariants.{Cast, InstanceOf}
use Rattle.wf_rows.specs.declared.joins.HandlerEntry.{HandlerEntry}
use Rattle.wf_rows.specs.declared.roots.RootUse.{RootUse}
use Rattle.wf_rows.specs.declared.roots.RootUse.TheVariants as root
use Rattle.wf_rows.specs.declared.summaries.SummaryEffect.{SummaryEffect}
use Rattle.wf_rows.specs.declared.summaries.SummaryEffect.TheVariants as effect
use Rattle.wf_rows.specs.declared.summaries.SummaryValue.TheVariants.{Stated}
use Rattle.wf_rows.specs.declared.throwable.Throwable.{Throwable}
use Rattle.wf_rows.specs.declared.throwable.Throwable.TheVariants as throwable
use Rattle.wf_machine.specs.Values.{Object, Value, Int, Long, Null, Ref}
use Rattle.wf_machine.specs.Memory.{Memory, empty, InProgress, Initialized, Erroneous, with_class, with_field, with_elements, with_static, with_literal, with_written}
use Rattle.wf_machine.specs.World.{World, Instruction, Code, Other, NoBody, Holds, made, made_with}
use Rattle.wf_machine.specs.Frames.{Frame, Runs, Outside, Requesting, Initializing, Beginning, BeginsCall, BeginsObject, State, running, ended, start}

-- ---- numbers

abbrev pub class_id : ℕ → ClassId
class_id n = record { 0 = n }

abbrev pub field_id : ℕ → FieldId
field_id n = record { 0 = n }

abbrev pub method_id : ℕ → MethodId
method_id n = record { 0 = n }

abbrev pub target_id : ℕ → TargetId
target_id n = record { 0 = n }

abbrev pub type_id : ℕ → TypeId
type_id n = record { 0 = n }

-- ---- instructions, each with the place behind it

abbrev pub acting : Sort → List SlotKind → List SlotKind → Action → ℕ → Instruction
acting s takes gives a behind = record { sort = s; effect = Acts takes gives; next = next.Falls; action = a; number = pos 0; behind = behind }

abbrev pub moving : Sort → Effect → Next → ℕ → Instruction
moving s e n behind = record { sort = s; effect = e; next = n; action = action.Moves; number = pos 0; behind = behind }

abbrev pub constant : ℤ → ℕ → Instruction
constant n behind = record { sort = sort.IntConstant; effect = Acts [] (slot.Int ∷ []); next = next.Falls; action = action.Computes (computation.Int n); number = n; behind = behind }

abbrev pub long_constant : ℤ → ℕ → Instruction
long_constant n behind = record { sort = sort.LongConstant; effect = Acts [] (slot.Long ∷ slot.LongRest ∷ []); next = next.Falls; action = action.Computes computation.AnyLong; number = n; behind = behind }

abbrev pub null_constant : ℕ → Instruction
null_constant behind = acting sort.NullConstant [] (slot.Ref ∷ []) (action.Computes computation.Null) behind

abbrev pub adding : ℕ → Instruction
adding behind = acting (sort.IntArithmetic arithmetic.Add) (slot.Int ∷ slot.Int ∷ []) (slot.Int ∷ []) (action.Computes computation.AnyInt) behind

abbrev pub dividing : ℕ → Instruction
dividing behind = acting (sort.IntArithmetic arithmetic.Divide) (slot.Int ∷ slot.Int ∷ []) (slot.Int ∷ []) (action.Computes computation.IntQuotient) behind

abbrev pub adding_longs : ℕ → Instruction
adding_longs behind = acting (sort.LongArithmetic arithmetic.Add) (slot.Long ∷ slot.LongRest ∷ slot.Long ∷ slot.LongRest ∷ []) (slot.Long ∷ slot.LongRest ∷ []) (action.Computes computation.AnyLong) behind

-- l2i
abbrev pub cutting : ℕ → Instruction
cutting behind = acting sort.LongToInt (slot.Long ∷ slot.LongRest ∷ []) (slot.Int ∷ []) (action.Computes computation.AnyInt) behind

-- istore, iload and iinc of local 0
abbrev pub storing : ℕ → Instruction
storing behind = moving (sort.Store kind.Int) (Stores kind.Int 0) next.Falls behind

abbrev pub loading : ℕ → Instruction
loading behind = moving (sort.Load kind.Int) (Loads kind.Int 0) next.Falls behind

abbrev pub increasing : ℤ → ℕ → Instruction
increasing by behind = record { sort = sort.Increment; effect = Increments 0; next = next.Falls; action = action.Computes computation.AnyInt; number = by; behind = behind }

abbrev pub popping : ℕ → Instruction
popping behind = moving (sort.Shuffle shuffle.Pop) (Shuffles shuffle.Pop) next.Falls behind

abbrev pub doubling : ℕ → Instruction
doubling behind = moving (sort.Shuffle shuffle.Dup) (Shuffles shuffle.Dup) next.Falls behind

-- ifeq
abbrev pub branching : ℕ → ℕ → Instruction
branching to behind = moving (sort.CompareToZero Eq) (Acts (slot.Int ∷ []) []) (next.Branches (ToZero Eq) to) behind

-- lookupswitch with one case
abbrev pub switching : ℤ → ℕ → ℕ → Instruction
switching key to default = moving sort.Switch (Acts (slot.Int ∷ []) []) (next.Switches (record { key = key; target = to } ∷ []) default) 0

-- of a class, the field with its number
abbrev pub getting_static : ℕ → ℕ → Instruction
getting_static c behind = acting sort.GetStatic [] (slot.Int ∷ []) (action.Field (field.GetStatic (Ok (record { class = class_id c; field = field_id c })))) behind

-- getfield and putfield of field 0
abbrev pub getting : ℕ → Instruction
getting behind = acting sort.GetField (slot.Ref ∷ []) (slot.Int ∷ []) (action.Field (field.Get (Ok (field_id 0)))) behind

abbrev pub putting : ℕ → Instruction
putting behind = acting sort.PutField (slot.Ref ∷ slot.Int ∷ []) [] (action.Field (field.Put (Ok (field_id 0)) kind.Int)) behind

-- new of class 0, whose objects have type 0
abbrev pub making_object : ℕ → Instruction
making_object behind = acting sort.New [] (slot.Ref ∷ []) (action.Makes (making.Object (Ok (record { class = class_id 0; made = type_id 0 })))) behind

-- newarray or anewarray of type 0
abbrev pub making_array : ℕ → Instruction
making_array behind = acting sort.NewArray (slot.Int ∷ []) (slot.Ref ∷ []) (action.Makes (making.Array (Ok (type_id 0)))) behind

-- multianewarray of type 0, whose elements have type 1
abbrev pub making_arrays : ℕ → Instruction
making_arrays behind = acting sort.NewManyArray (slot.Int ∷ slot.Int ∷ []) (slot.Ref ∷ []) (action.Makes (making.ManyArray (Ok (record { array = type_id 0; components = type_id 1 ∷ [] })))) behind

abbrev pub storing_byte : ℕ → Instruction
storing_byte behind = acting (sort.ArrayStore element.Byte) (slot.Ref ∷ slot.Int ∷ slot.Int ∷ []) [] (action.Array use_of.StoreNumber) behind

abbrev pub loading_byte : ℕ → Instruction
loading_byte behind = acting (sort.ArrayLoad element.Byte) (slot.Ref ∷ slot.Int ∷ []) (slot.Int ∷ []) (action.Array use_of.LoadInt) behind

abbrev pub casting : ℕ → Instruction
casting behind = acting sort.Cast (slot.Ref ∷ []) (slot.Ref ∷ []) (action.Tests (Cast (Ok (target_id 1)))) behind

abbrev pub testing : ℕ → Instruction
testing behind = acting sort.InstanceOf (slot.Ref ∷ []) (slot.Int ∷ []) (action.Tests (InstanceOf (Ok (target_id 1)))) behind

abbrev pub loading_literal : Literal → ℕ → Instruction
loading_literal l behind = acting sort.PoolConstant [] (slot.Ref ∷ []) (action.Literal (Ok l)) behind

-- invokestatic of a method of class 0, with arguments that stand so deep
abbrev pub calling : List SlotKind → List SlotKind → List ℕ → ℕ → ℕ → Instruction
calling takes gives arguments m behind = acting (sort.Invoke call.Static) takes gives (action.CallsStatic (Ok (record { class = class_id 0; method = method_id m; arguments = arguments }))) behind

-- invokevirtual without arguments
abbrev pub invoking : ℕ → Instruction
invoking behind = acting (sort.Invoke call.Virtual) (slot.Ref ∷ []) (slot.Int ∷ []) (action.Calls (Ok (record { site = 0; candidates = []; receiver = 0; arguments = [] }))) behind

abbrev pub throwing : Instruction
throwing = record { sort = sort.Throw; effect = Acts (slot.Ref ∷ []) []; next = next.Throws; action = action.Throws; number = pos 0; behind = 0 }

abbrev pub returning : Instruction
returning = record { sort = sort.ReturnNothing; effect = Acts [] []; next = next.Returns None; action = action.Returns None; number = pos 0; behind = 0 }

abbrev pub returning_int : Instruction
returning_int = record { sort = sort.Return kind.Int; effect = Acts (slot.Int ∷ []) []; next = next.Returns (Some kind.Int); action = action.Returns (Some kind.Int); number = pos 0; behind = 0 }

-- ---- what programs share

-- nothing is there
abbrev pub blank : World
blank = record { code = λ m pc. None; entry = λ m. NoBody; handlers = λ m pc. []; selects = λ m pc t. Err throwable.AbstractMethod; is_under = λ t u. false; is_array = λ t. false; has_elements = λ t e. false; may_hold = λ t u. false; first_value = λ t f. None; first_element = λ t. Null; is_static = λ f. false; initializer = λ c. None; static_fields = λ c. []; before = λ c. []; is_error = λ t. false; thrown = λ e. None; summary = λ m. None }

-- methods with these bodies, and so many locals each
abbrev pub coded : ℕ → List (List Instruction) → World
coded locals bodies = record blank { code = λ m pc. slice_get (slice_index_or bodies m.0 []) pc; entry = λ m. if nat_lt m.0 (length bodies) then Code locals else NoBody }

abbrev pub object : ℕ → ℕ → Object
object t n = record { type = type_id t; serial = n }

-- the root that calls method 0
abbrev pub calls_0 : RootUse
calls_0 = root.Calls (class_id 0) (method_id 0) []

abbrev pub begins_0 : Frame
begins_0 = Beginning (BeginsCall (class_id 0) (method_id 0) [])

-- class 0 gets in progress, and is initialized
abbrev pub begun : Memory
begun = with_class empty (class_id 0) InProgress

abbrev pub ready : Memory
ready = with_class begun (class_id 0) Initialized

-- the states until class 0 is initialized, where nothing is to be done for that; the last first
abbrev pub first_states : List State
first_states = running (begins_0 ∷ []) ready ∷ running (Requesting (class_id 0) [] ∷ begins_0 ∷ []) begun ∷ running (begins_0 ∷ []) empty ∷ start ∷ []

-- method m at a place
abbrev pub run : ℕ → ℕ → List Value → Frame
run m pc slots = Runs (method_id m) pc slots

-- method 0 alone
abbrev pub in_0 : ℕ → List Value → Memory → State
in_0 pc slots memory = running (run 0 pc slots ∷ []) memory

abbrev pub int : ℕ → Value
int n = Int (pos n)

-- ---- programs, and their states, the last first

-- 2 + 3
abbrev pub adds : World
adds = coded 0 ((constant (pos 2) 1 ∷ constant (pos 3) 2 ∷ adding 3 ∷ returning_int ∷ []) ∷ [])

abbrev pub adds_states : List State
adds_states = running [] ready ∷ in_0 3 (int 5 ∷ []) ready ∷ in_0 2 (int 2 ∷ int 3 ∷ []) ready ∷ in_0 1 (int 2 ∷ []) ready ∷ in_0 0 [] ready ∷ first_states

-- 1L + 2L, as an int: both slots of a long hold it
abbrev pub adds_longs : World
adds_longs = coded 0 ((long_constant (pos 1) 1 ∷ long_constant (pos 2) 2 ∷ adding_longs 3 ∷ cutting 4 ∷ returning_int ∷ []) ∷ [])

abbrev pub adds_longs_states : List State
adds_longs_states = running [] ready ∷ in_0 4 (int 3 ∷ []) ready ∷ in_0 3 (Long (pos 3) ∷ Long (pos 3) ∷ []) ready ∷ in_0 2 (Long (pos 1) ∷ Long (pos 1) ∷ Long (pos 2) ∷ Long (pos 2) ∷ []) ready ∷ in_0 1 (Long (pos 1) ∷ Long (pos 1) ∷ []) ready ∷ in_0 0 [] ready ∷ first_states

-- x = 3; x += 4; x twice on the stack
abbrev pub moves : World
moves = coded 1 ((constant (pos 3) 1 ∷ storing 2 ∷ increasing (pos 4) 3 ∷ loading 4 ∷ doubling 5 ∷ returning_int ∷ []) ∷ [])

abbrev pub moves_states : List State
moves_states = running [] ready ∷ in_0 5 (int 7 ∷ int 7 ∷ int 7 ∷ []) ready ∷ in_0 4 (int 7 ∷ int 7 ∷ []) ready ∷ in_0 3 (int 7 ∷ []) ready ∷ in_0 2 (int 3 ∷ []) ready ∷ in_0 1 (Null ∷ int 3 ∷ []) ready ∷ in_0 0 (Null ∷ []) ready ∷ first_states

-- a branch that is taken, and one that is not
abbrev pub branches : World
branches = coded 0 ((constant (pos 0) 1 ∷ branching 3 2 ∷ returning ∷ constant (pos 1) 4 ∷ branching 0 5 ∷ returning ∷ []) ∷ [])

abbrev pub branches_states : List State
branches_states = running [] ready ∷ in_0 5 [] ready ∷ in_0 4 (int 1 ∷ []) ready ∷ in_0 3 [] ready ∷ in_0 1 (int 0 ∷ []) ready ∷ in_0 0 [] ready ∷ first_states

-- a switch to its case, and to its default
abbrev pub switches : World
switches = coded 0 ((constant (pos 5) 1 ∷ switching (pos 5) 3 2 ∷ returning ∷ constant (pos 6) 4 ∷ switching (pos 5) 3 2 ∷ []) ∷ [])

abbrev pub switches_states : List State
switches_states = running [] ready ∷ in_0 2 [] ready ∷ in_0 4 (int 6 ∷ []) ready ∷ in_0 3 [] ready ∷ in_0 1 (int 5 ∷ []) ready ∷ in_0 0 [] ready ∷ first_states

-- objects have each field, and it holds 0
abbrev pub with_field_0 : World
with_field_0 = record blank { first_value = λ t f. Some (int 0) }

abbrev pub one_object : Memory
one_object = made with_field_0 ready (type_id 0) 0

abbrev pub filled_object : Memory
filled_object = with_field one_object (object 0 0) (field_id 0) (int 7)

-- o = new C; o.f = 7; o.f
abbrev pub uses_field : World
uses_field = record (coded 0 ((making_object 1 ∷ doubling 2 ∷ constant (pos 7) 3 ∷ putting 4 ∷ getting 5 ∷ returning_int ∷ []) ∷ [])) { first_value = λ t f. Some (int 0) }

abbrev pub uses_field_states : List State
uses_field_states = running [] filled_object ∷ in_0 5 (int 7 ∷ []) filled_object ∷ in_0 4 (Ref (object 0 0) ∷ []) filled_object ∷ in_0 3 (Ref (object 0 0) ∷ Ref (object 0 0) ∷ int 7 ∷ []) one_object ∷ in_0 2 (Ref (object 0 0) ∷ Ref (object 0 0) ∷ []) one_object ∷ in_0 1 (Ref (object 0 0) ∷ []) one_object ∷ in_0 0 [] ready ∷ first_states

-- null.f, where NullPointerException is no class that is there: the execution ends
abbrev pub gets_of_null : World
gets_of_null = coded 0 ((null_constant 1 ∷ getting 2 ∷ returning_int ∷ []) ∷ [])

abbrev pub gets_of_null_states : List State
gets_of_null_states = ended (run 0 1 (Null ∷ []) ∷ []) ready ∷ in_0 1 (Null ∷ []) ready ∷ in_0 0 [] ready ∷ first_states

-- arrays of zeros
abbrev pub with_ints : World
with_ints = record blank { is_array = λ t. true; has_elements = λ t e. true; first_element = λ t. int 0 }

abbrev pub zeros : Memory
zeros = made with_ints ready (type_id 0) 2

abbrev pub stored : Memory
stored = with_elements zeros (object 0 0) (int 0 ∷ int 44 ∷ [])

-- a = new byte[2]; a[1] = (byte) 300; a[1]
abbrev pub uses_array : World
uses_array = record (coded 0 ((constant (pos 2) 1 ∷ making_array 2 ∷ doubling 3 ∷ constant (pos 1) 4 ∷ constant (pos 300) 5 ∷ storing_byte 6 ∷ constant (pos 1) 7 ∷ loading_byte 8 ∷ returning_int ∷ []) ∷ [])) { is_array = λ t. true; has_elements = λ t e. true; first_element = λ t. int 0 }

abbrev pub uses_array_states : List State
uses_array_states = running [] stored ∷ in_0 8 (int 44 ∷ []) stored ∷ in_0 7 (Ref (object 0 0) ∷ int 1 ∷ []) stored ∷ in_0 6 (Ref (object 0 0) ∷ []) stored ∷ in_0 5 (Ref (object 0 0) ∷ Ref (object 0 0) ∷ int 1 ∷ int 300 ∷ []) zeros ∷ in_0 4 (Ref (object 0 0) ∷ Ref (object 0 0) ∷ int 1 ∷ []) zeros ∷ in_0 3 (Ref (object 0 0) ∷ Ref (object 0 0) ∷ []) zeros ∷ in_0 2 (Ref (object 0 0) ∷ []) zeros ∷ in_0 1 (int 2 ∷ []) ready ∷ in_0 0 [] ready ∷ first_states

abbrev pub inner_arrays : Memory
inner_arrays = made with_ints (made with_ints ready (type_id 1) 1) (type_id 1) 1

abbrev pub outer_array : Memory
outer_array = made_with with_ints inner_arrays (type_id 0) (Ref (object 1 0) ∷ Ref (object 1 1) ∷ [])

-- new int[2][1]
abbrev pub makes_arrays : World
makes_arrays = record (coded 0 ((constant (pos 2) 1 ∷ constant (pos 1) 2 ∷ making_arrays 3 ∷ popping 4 ∷ returning ∷ []) ∷ [])) { is_array = λ t. true; has_elements = λ t e. true; first_element = λ t. int 0 }

abbrev pub makes_arrays_states : List State
makes_arrays_states = running [] outer_array ∷ in_0 4 [] outer_array ∷ in_0 3 (Ref (object 0 2) ∷ []) outer_array ∷ in_0 2 (int 2 ∷ int 1 ∷ []) ready ∷ in_0 1 (int 2 ∷ []) ready ∷ in_0 0 [] ready ∷ first_states

-- (T) null instanceof T
abbrev pub tests_null : World
tests_null = coded 0 ((null_constant 1 ∷ casting 2 ∷ testing 3 ∷ returning_int ∷ []) ∷ [])

abbrev pub tests_null_states : List State
tests_null_states = running [] ready ∷ in_0 3 (int 0 ∷ []) ready ∷ in_0 2 (Null ∷ []) ready ∷ in_0 1 (Null ∷ []) ready ∷ in_0 0 [] ready ∷ first_states

-- a literal of type 0, with a line for its field 0
abbrev pub greeting : Literal
greeting = record { class = type_id 0; fields = record { field = field_id 0; value = stated.Int (pos 3) } ∷ [] }

abbrev pub one_literal : Memory
one_literal = with_written (with_field (with_literal one_object (object 0 0)) (object 0 0) (field_id 0) (int 3)) (field_id 0)

-- a new literal, and an earlier one, whose field is read
abbrev pub loads_literals : World
loads_literals = record (coded 0 ((loading_literal greeting 1 ∷ popping 2 ∷ loading_literal greeting 3 ∷ getting 4 ∷ returning_int ∷ []) ∷ [])) { first_value = λ t f. Some (int 0) }

abbrev pub loads_literals_states : List State
loads_literals_states = running [] one_literal ∷ in_0 4 (int 3 ∷ []) one_literal ∷ in_0 3 (Ref (object 0 0) ∷ []) one_literal ∷ in_0 2 [] one_literal ∷ in_0 1 (Ref (object 0 0) ∷ []) one_literal ∷ in_0 0 [] ready ∷ first_states

abbrev pub one_plain : Memory
one_plain = made blank ready (type_id 0) 0

-- new C().m(), where m gives 4
abbrev pub calls_virtual : World
calls_virtual = record (coded 1 ((making_object 1 ∷ invoking 2 ∷ returning_int ∷ []) ∷ (constant (pos 4) 1 ∷ returning_int ∷ []) ∷ [])) { selects = λ m pc t. Ok (method_id 1) }

abbrev pub calls_virtual_states : List State
calls_virtual_states = running [] one_plain ∷ in_0 2 (Null ∷ int 4 ∷ []) one_plain ∷ running (run 1 1 (Ref (object 0 0) ∷ int 4 ∷ []) ∷ run 0 1 (Null ∷ Ref (object 0 0) ∷ []) ∷ []) one_plain ∷ running (run 1 0 (Ref (object 0 0) ∷ []) ∷ run 0 1 (Null ∷ Ref (object 0 0) ∷ []) ∷ []) one_plain ∷ in_0 1 (Null ∷ Ref (object 0 0) ∷ []) one_plain ∷ in_0 0 (Null ∷ []) ready ∷ first_states

-- a call of a static method that is abstract ends the execution
abbrev pub calls_abstract : World
calls_abstract = coded 0 ((calling [] [] [] 7 1 ∷ returning ∷ []) ∷ [])

abbrev pub calls_abstract_states : List State
calls_abstract_states = ended (run 0 0 [] ∷ []) ready ∷ in_0 0 [] ready ∷ first_states

-- a handler at place 2, without locals
abbrev pub handler : HandlerEntry
handler = record { entry = 0; target = 2; catches = Some (target_id 1); locals = 0 }

abbrev pub one_error : Memory
one_error = made blank ready (type_id 1) 0

-- 1 / 0 in a method that another calls, which has a handler
abbrev pub throws_through_two : World
throws_through_two = record (coded 0 ((calling [] [] [] 1 1 ∷ returning ∷ popping 3 ∷ returning ∷ []) ∷ (constant (pos 1) 1 ∷ constant (pos 0) 2 ∷ dividing 3 ∷ returning_int ∷ []) ∷ [])) { thrown = λ e. Some (type_id 1); handlers = λ m pc. if m.0 == 0 then handler ∷ [] else []; is_under = λ t u. true }

abbrev pub throws_through_two_states : List State
throws_through_two_states = running [] one_error ∷ in_0 3 [] one_error ∷ in_0 2 (Ref (object 1 0) ∷ []) one_error ∷ running (run 1 2 (int 1 ∷ int 0 ∷ []) ∷ run 0 0 [] ∷ []) ready ∷ running (run 1 1 (int 1 ∷ []) ∷ run 0 0 [] ∷ []) ready ∷ running (run 1 0 [] ∷ run 0 0 [] ∷ []) ready ∷ in_0 0 [] ready ∷ first_states

abbrev pub ring_0 : Memory
ring_0 = with_static begun (field_id 0) (int 0)

abbrev pub ring_1 : Memory
ring_1 = with_static (with_class ring_0 (class_id 1) InProgress) (field_id 1) (int 0)

abbrev pub ring_2 : Memory
ring_2 = with_class ring_1 (class_id 1) Initialized

abbrev pub ring_3 : Memory
ring_3 = with_class ring_2 (class_id 0) Initialized

-- initializers of two classes that each read a field of the other
abbrev pub ring : World
ring = record (coded 0 ((returning ∷ []) ∷ (getting_static 1 1 ∷ popping 2 ∷ returning ∷ []) ∷ (getting_static 0 1 ∷ popping 2 ∷ returning ∷ []) ∷ [])) { initializer = λ c. Some (method_id (c.0 + 1)); static_fields = λ c. record { field = field_id c.0; start = Holds (int 0) } ∷ [] }

abbrev pub ring_states : List State
ring_states = running [] ring_3 ∷ in_0 0 [] ring_3 ∷ running (begins_0 ∷ []) ring_3 ∷ running (run 1 2 [] ∷ Initializing (class_id 0) ∷ begins_0 ∷ []) ring_2 ∷ running (run 1 1 (int 0 ∷ []) ∷ Initializing (class_id 0) ∷ begins_0 ∷ []) ring_2 ∷ running (run 1 0 [] ∷ Initializing (class_id 0) ∷ begins_0 ∷ []) ring_2 ∷ running (run 2 2 [] ∷ Initializing (class_id 1) ∷ run 1 0 [] ∷ Initializing (class_id 0) ∷ begins_0 ∷ []) ring_1 ∷ running (run 2 1 (int 0 ∷ []) ∷ Initializing (class_id 1) ∷ run 1 0 [] ∷ Initializing (class_id 0) ∷ begins_0 ∷ []) ring_1 ∷ running (run 2 0 [] ∷ Initializing (class_id 1) ∷ run 1 0 [] ∷ Initializing (class_id 0) ∷ begins_0 ∷ []) ring_1 ∷ running (Requesting (class_id 1) [] ∷ run 1 0 [] ∷ Initializing (class_id 0) ∷ begins_0 ∷ []) ring_1 ∷ running (run 1 0 [] ∷ Initializing (class_id 0) ∷ begins_0 ∷ []) ring_0 ∷ running (Requesting (class_id 0) [] ∷ begins_0 ∷ []) ring_0 ∷ running (begins_0 ∷ []) empty ∷ start ∷ []

-- NullPointerException has type 1, and ExceptionInInitializerError type 2
abbrev pub error_type : Throwable → Option TypeId
error_type throwable.ExceptionInInitializer = Some (type_id 2)
error_type e = Some (type_id 1)

abbrev pub failed : Memory
failed = with_class (made blank (made blank begun (type_id 1) 0) (type_id 2) 0) (class_id 0) Erroneous

-- an initializer that throws null: its exception is replaced, and the root dropped
abbrev pub fails : World
fails = record (coded 0 ((returning ∷ []) ∷ (null_constant 1 ∷ throwing ∷ []) ∷ [])) { initializer = λ c. Some (method_id 1); thrown = error_type; is_error = λ t. t.0 == 2 }

abbrev pub fails_states : List State
fails_states = running [] failed ∷ running (run 1 1 (Null ∷ []) ∷ Initializing (class_id 0) ∷ begins_0 ∷ []) begun ∷ running (run 1 0 [] ∷ Initializing (class_id 0) ∷ begins_0 ∷ []) begun ∷ running (Requesting (class_id 0) [] ∷ begins_0 ∷ []) begun ∷ running (begins_0 ∷ []) empty ∷ start ∷ []

-- the root that makes an object of type 0 by the constructor 0
abbrev pub makes_0 : RootUse
makes_0 = root.Makes (class_id 0) (type_id 0) (method_id 0)

abbrev pub begins_object : Frame
begins_object = Beginning (BeginsObject (class_id 0) (type_id 0) (method_id 0))

abbrev pub above_first : Memory
above_first = with_class (with_class (with_class begun (class_id 1) InProgress) (class_id 1) Initialized) (class_id 0) Initialized

-- a root that makes an object, after class 1 and then class 0 are initialized
abbrev pub makes_root : World
makes_root = record (coded 1 ((returning ∷ []) ∷ [])) { before = λ c. if c.0 == 0 then class_id 1 ∷ [] else [] }

abbrev pub makes_root_states : List State
makes_root_states = running [] (made blank above_first (type_id 0) 0) ∷ in_0 0 (Ref (object 0 0) ∷ []) (made blank above_first (type_id 0) 0) ∷ running (begins_object ∷ []) above_first ∷ running (Requesting (class_id 0) [] ∷ begins_object ∷ []) (with_class (with_class begun (class_id 1) InProgress) (class_id 1) Initialized) ∷ running (Requesting (class_id 1) [] ∷ Requesting (class_id 0) [] ∷ begins_object ∷ []) (with_class begun (class_id 1) InProgress) ∷ running (Requesting (class_id 0) (class_id 1 ∷ []) ∷ begins_object ∷ []) begun ∷ running (begins_object ∷ []) empty ∷ start ∷ []

-- what the summary says of method 1
abbrev pub effects : List SummaryEffect
effects = effect.Makes (type_id 3) ∷ effect.Writes (field_id 5) (Stated (stated.Int (pos 4))) ∷ effect.Copies 0 0 0 ∷ effect.Returns (Stated (stated.Int (pos 9))) ∷ []

abbrev pub with_nulls : World
with_nulls = record blank { is_array = λ t. t.0 == 0; has_elements = λ t e. true }

abbrev pub nulls : Memory
nulls = made with_nulls ready (type_id 0) 1

abbrev pub copied : Memory
copied = with_elements nulls (object 0 0) (Null ∷ [])

abbrev pub more : Memory
more = made with_nulls copied (type_id 3) 0

abbrev pub wrote : Memory
wrote = with_written (with_static more (field_id 5) (int 4)) (field_id 5)

-- a native method that copies, makes, writes and returns
abbrev pub calls_native : World
calls_native = record (coded 0 ((constant (pos 1) 1 ∷ making_array 2 ∷ calling (slot.Ref ∷ []) (slot.Int ∷ []) (0 ∷ []) 1 3 ∷ returning_int ∷ []) ∷ [])) { is_array = λ t. t.0 == 0; has_elements = λ t e. true; is_static = λ f. true; entry = λ m. if m.0 == 0 then Code 0 else Other; summary = λ m. if m.0 == 1 then Some effects else None }

abbrev pub calls_native_states : List State
calls_native_states = running [] wrote ∷ in_0 3 (int 9 ∷ []) wrote ∷ running (Outside (method_id 1) (Ref (object 0 0) ∷ []) ∷ run 0 2 (Ref (object 0 0) ∷ []) ∷ []) wrote ∷ running (Outside (method_id 1) (Ref (object 0 0) ∷ []) ∷ run 0 2 (Ref (object 0 0) ∷ []) ∷ []) more ∷ running (Outside (method_id 1) (Ref (object 0 0) ∷ []) ∷ run 0 2 (Ref (object 0 0) ∷ []) ∷ []) copied ∷ running (Outside (method_id 1) (Ref (object 0 0) ∷ []) ∷ run 0 2 (Ref (object 0 0) ∷ []) ∷ []) nulls ∷ in_0 2 (Ref (object 0 0) ∷ []) nulls ∷ in_0 1 (int 1 ∷ []) ready ∷ in_0 0 [] ready ∷ first_states

-- a native method that throws an object that exists, which no handler catches
abbrev pub native_throws : World
native_throws = record (coded 0 ((constant (pos 1) 1 ∷ making_array 2 ∷ calling (slot.Ref ∷ []) (slot.Int ∷ []) (0 ∷ []) 1 3 ∷ returning_int ∷ []) ∷ [])) { is_array = λ t. t.0 == 0; has_elements = λ t e. true; is_static = λ f. true; entry = λ m. if m.0 == 0 then Code 0 else Other; summary = λ m. if m.0 == 1 then Some effects else None }

abbrev pub native_throws_states : List State
native_throws_states = running [] nulls ∷ running (Outside (method_id 1) (Ref (object 0 0) ∷ []) ∷ run 0 2 (Ref (object 0 0) ∷ []) ∷ []) nulls ∷ in_0 2 (Ref (object 0 0) ∷ []) nulls ∷ in_0 1 (int 1 ∷ []) ready ∷ in_0 0 [] ready ∷ first_states
