-- Small programs, one for each family of instructions that the others leave out, on which the machine is tried.
use Rattle.std.specs.Prelude.{ℕ, pos, negsuc, true, List, [], ◌∷◌, Some, None, Ok, ◌==◌, if◌then◌else◌}
use Rattle.wf_operation.specs.declared.effect.Effect.TheVariants.{Acts}
use Rattle.wf_operation.specs.declared.next.Next.TheVariants as next
use Rattle.wf_operation.specs.declared.next.Test.TheVariants.{Refs, ToNull}
use Rattle.wf_operation.specs.declared.slot.SlotKind.TheVariants as slot
use Rattle.wf_operation.specs.declared.sort.Equality.TheVariants as equality
use Rattle.wf_operation.specs.declared.sort.Narrow.TheVariants as narrow
use Rattle.wf_operation.specs.declared.sort.Shift.TheVariants as shift
use Rattle.wf_operation.specs.declared.sort.Sort.TheVariants as sort
use Rattle.wf_rows.specs.declared.action.Action.TheVariants as action
use Rattle.wf_rows.specs.declared.action.ArrayUse.TheVariants as use_of
use Rattle.wf_rows.specs.declared.action.Computation.TheVariants as computation
use Rattle.wf_rows.specs.declared.action.FieldUse.TheVariants as field
use Rattle.wf_rows.specs.declared.summaries.SummaryEffect.TheVariants as effect
use Rattle.wf_rows.specs.declared.summaries.SummaryValue.TheVariants.{Argument}
use Rattle.wf_base.specs.declared.kind.Kind.TheVariants as kind
use Rattle.wf_machine.specs.Values.{Int, Long, Null, Ref}
use Rattle.wf_machine.specs.Memory.{Memory, with_field, with_static, with_written}
use Rattle.wf_machine.specs.World.{World, Instruction, Code, Other}
use Rattle.wf_machine.specs.Frames.{Outside, State, running, ended}
use Rattle.wf_machine.specs.Programs.{class_id, field_id, method_id, acting, moving, constant, long_constant, null_constant, making_object, making_array, doubling, popping, casting, testing, getting, getting_static, calling, throwing, returning, returning_int, coded, object, ready, first_states, run, in_0, int, zeros, one_plain, one_object}

-- ---- instructions

abbrev pub shifting : ℕ → Instruction
shifting behind = acting (sort.IntShift shift.Left) (slot.Int ∷ slot.Int ∷ []) (slot.Int ∷ []) (action.Computes computation.AnyInt) behind

abbrev pub negating : ℕ → Instruction
negating behind = acting sort.IntNegate (slot.Int ∷ []) (slot.Int ∷ []) (action.Computes computation.AnyInt) behind

-- i2b and i2l
abbrev pub narrowing : ℕ → Instruction
narrowing behind = acting (sort.Narrow narrow.Byte) (slot.Int ∷ []) (slot.Int ∷ []) (action.Computes computation.AnyInt) behind

abbrev pub widening : ℕ → Instruction
widening behind = acting sort.IntToLong (slot.Int ∷ []) (slot.Long ∷ slot.LongRest ∷ []) (action.Computes computation.AnyLong) behind

abbrev pub comparing : ℕ → Instruction
comparing behind = acting sort.CompareLongs (slot.Long ∷ slot.LongRest ∷ slot.Long ∷ slot.LongRest ∷ []) (slot.Int ∷ []) (action.Computes computation.AnyInt) behind

-- if_acmpeq and ifnonnull
abbrev pub branching_same : ℕ → ℕ → Instruction
branching_same to behind = moving (sort.CompareRefs equality.Same) (Acts (slot.Ref ∷ slot.Ref ∷ []) []) (next.Branches (Refs equality.Same) to) behind

abbrev pub branching_object : ℕ → ℕ → Instruction
branching_object to behind = moving (sort.CompareToNull equality.Different) (Acts (slot.Ref ∷ []) []) (next.Branches (ToNull equality.Different) to) behind

abbrev pub jumping : ℕ → Instruction
jumping to = moving sort.Jump (Acts [] []) (next.Jumps to) 0

-- putstatic of field 0 of class 0
abbrev pub putting_static : ℕ → Instruction
putting_static behind = acting sort.PutStatic (slot.Int ∷ []) [] (action.Field (field.PutStatic (Ok (record { class = class_id 0; field = field_id 0 })) kind.Int)) behind

abbrev pub measuring : ℕ → Instruction
measuring behind = acting sort.ArrayLength (slot.Ref ∷ []) (slot.Int ∷ []) (action.Array use_of.Length) behind

abbrev pub locking : ℕ → Instruction
locking behind = acting sort.EnterMonitor (slot.Ref ∷ []) [] action.Monitors behind

abbrev pub unlocking : ℕ → Instruction
unlocking behind = acting sort.ExitMonitor (slot.Ref ∷ []) [] action.Monitors behind

-- ---- programs, and their states, the last first

-- how -(5 << 33), as a byte, compares with 3L
abbrev pub works_out : World
works_out = coded 0 ((constant (pos 5) 1 ∷ constant (pos 33) 2 ∷ shifting 3 ∷ negating 4 ∷ narrowing 5 ∷ widening 6 ∷ long_constant (pos 3) 7 ∷ comparing 8 ∷ returning_int ∷ []) ∷ [])

abbrev pub works_out_states : List State
works_out_states = running [] ready ∷ in_0 8 (Int (negsuc 0) ∷ []) ready ∷ in_0 7 (Long (negsuc 9) ∷ Long (negsuc 9) ∷ Long (pos 3) ∷ Long (pos 3) ∷ []) ready ∷ in_0 6 (Long (negsuc 9) ∷ Long (negsuc 9) ∷ []) ready ∷ in_0 5 (Int (negsuc 9) ∷ []) ready ∷ in_0 4 (Int (negsuc 9) ∷ []) ready ∷ in_0 3 (int 10 ∷ []) ready ∷ in_0 2 (int 5 ∷ int 33 ∷ []) ready ∷ in_0 1 (int 5 ∷ []) ready ∷ in_0 0 [] ready ∷ first_states

-- null is null, and no object; a jump
abbrev pub compares : World
compares = coded 0 ((null_constant 1 ∷ null_constant 2 ∷ branching_same 4 3 ∷ returning ∷ null_constant 5 ∷ branching_object 3 6 ∷ jumping 3 ∷ []) ∷ [])

abbrev pub compares_states : List State
compares_states = running [] ready ∷ in_0 3 [] ready ∷ in_0 6 [] ready ∷ in_0 5 (Null ∷ []) ready ∷ in_0 4 [] ready ∷ in_0 2 (Null ∷ Null ∷ []) ready ∷ in_0 1 (Null ∷ []) ready ∷ in_0 0 [] ready ∷ first_states

abbrev pub seven : Memory
seven = with_static ready (field_id 0) (int 7)

-- C.f = 7; C.f
abbrev pub uses_static : World
uses_static = coded 0 ((constant (pos 7) 1 ∷ putting_static 2 ∷ getting_static 0 3 ∷ returning_int ∷ []) ∷ [])

abbrev pub uses_static_states : List State
uses_static_states = running [] seven ∷ in_0 3 (int 7 ∷ []) seven ∷ in_0 2 [] seven ∷ in_0 1 (int 7 ∷ []) ready ∷ in_0 0 [] ready ∷ first_states

-- new int[2].length
abbrev pub measures : World
measures = record (coded 0 ((constant (pos 2) 1 ∷ making_array 2 ∷ measuring 3 ∷ returning_int ∷ []) ∷ [])) { is_array = λ t. true; first_element = λ t. int 0 }

abbrev pub measures_states : List State
measures_states = running [] zeros ∷ in_0 3 (int 2 ∷ []) zeros ∷ in_0 2 (Ref (object 0 0) ∷ []) zeros ∷ in_0 1 (int 2 ∷ []) ready ∷ in_0 0 [] ready ∷ first_states

-- the length of an object that is no array: the execution ends
abbrev pub measures_object : World
measures_object = coded 0 ((making_object 1 ∷ measuring 2 ∷ returning_int ∷ []) ∷ [])

abbrev pub measures_object_states : List State
measures_object_states = ended (run 0 1 (Ref (object 0 0) ∷ []) ∷ []) one_plain ∷ in_0 1 (Ref (object 0 0) ∷ []) one_plain ∷ in_0 0 [] ready ∷ first_states

-- a field that an object hasn't: the execution ends
abbrev pub gets_elsewhere : World
gets_elsewhere = coded 0 ((making_object 1 ∷ getting 2 ∷ returning_int ∷ []) ∷ [])

abbrev pub gets_elsewhere_states : List State
gets_elsewhere_states = ended (run 0 1 (Ref (object 0 0) ∷ []) ∷ []) one_plain ∷ in_0 1 (Ref (object 0 0) ∷ []) one_plain ∷ in_0 0 [] ready ∷ first_states

-- synchronized (new C()) { }
abbrev pub locks : World
locks = coded 0 ((making_object 1 ∷ doubling 2 ∷ locking 3 ∷ unlocking 4 ∷ returning ∷ []) ∷ [])

abbrev pub locks_states : List State
locks_states = running [] one_plain ∷ in_0 4 [] one_plain ∷ in_0 3 (Ref (object 0 0) ∷ []) one_plain ∷ in_0 2 (Ref (object 0 0) ∷ Ref (object 0 0) ∷ []) one_plain ∷ in_0 1 (Ref (object 0 0) ∷ []) one_plain ∷ in_0 0 [] ready ∷ first_states

-- (T) new C() instanceof T, where each C is a T
abbrev pub tests_object : World
tests_object = record (coded 0 ((making_object 1 ∷ casting 2 ∷ testing 3 ∷ returning_int ∷ []) ∷ [])) { is_under = λ t u. true }

abbrev pub tests_object_states : List State
tests_object_states = running [] one_plain ∷ in_0 3 (int 1 ∷ []) one_plain ∷ in_0 2 (Ref (object 0 0) ∷ []) one_plain ∷ in_0 1 (Ref (object 0 0) ∷ []) one_plain ∷ in_0 0 [] ready ∷ first_states

-- throw new C(), and its handler
abbrev pub throws_object : World
throws_object = record (coded 1 ((making_object 1 ∷ throwing ∷ popping 3 ∷ returning ∷ []) ∷ [])) { handlers = λ m pc. record { entry = 0; target = 2; catches = Some (record { 0 = 1 }); locals = 1 } ∷ []; is_under = λ t u. true }

abbrev pub throws_object_states : List State
throws_object_states = running [] one_plain ∷ in_0 3 (Null ∷ []) one_plain ∷ in_0 2 (Null ∷ Ref (object 0 0) ∷ []) one_plain ∷ in_0 1 (Null ∷ Ref (object 0 0) ∷ []) one_plain ∷ in_0 0 (Null ∷ []) ready ∷ first_states

abbrev pub itself : Memory
itself = with_written (with_field one_object (object 0 0) (field_id 0) (Ref (object 0 0))) (field_id 0)

-- a native method that writes its argument into the field of an object, and returns its argument
abbrev pub writes_argument : World
writes_argument = record (coded 0 ((making_object 1 ∷ calling (slot.Ref ∷ []) (slot.Ref ∷ []) (0 ∷ []) 1 2 ∷ popping 3 ∷ returning ∷ []) ∷ [])) { entry = λ m. if m.0 == 0 then Code 0 else Other; summary = λ m. if m.0 == 1 then Some (effect.Writes (field_id 0) (Argument 0) ∷ effect.Returns (Argument 0) ∷ []) else None; first_value = λ t f. Some (int 0) }

abbrev pub writes_argument_states : List State
writes_argument_states = running [] itself ∷ in_0 3 [] itself ∷ in_0 2 (Ref (object 0 0) ∷ []) itself ∷ running (Outside (method_id 1) (Ref (object 0 0) ∷ []) ∷ run 0 1 (Ref (object 0 0) ∷ []) ∷ []) itself ∷ running (Outside (method_id 1) (Ref (object 0 0) ∷ []) ∷ run 0 1 (Ref (object 0 0) ∷ []) ∷ []) one_object ∷ in_0 1 (Ref (object 0 0) ∷ []) one_object ∷ in_0 0 [] ready ∷ first_states
