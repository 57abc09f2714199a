-- Small programs in which the machine throws an error of its own, on which it is tried. No handler catches the errors, so each
-- empties the stack; all have type 9.
use Rattle.std.specs.Prelude.{ℕ, pos, negsuc, true, List, [], ◌∷◌, Some, Ok, Err, ◌==◌}
use Rattle.wf_names.specs.declared.world.LinkError.TheVariants as link
use Rattle.wf_operation.specs.declared.slot.SlotKind.TheVariants as slot
use Rattle.wf_operation.specs.declared.sort.Element.TheVariants as element
use Rattle.wf_operation.specs.declared.sort.Sort.TheVariants as sort
use Rattle.wf_rows.specs.declared.action.Action.TheVariants as action
use Rattle.wf_rows.specs.declared.action.ArrayUse.TheVariants as use_of
use Rattle.wf_rows.specs.declared.action.FieldUse.TheVariants as field
use Rattle.wf_rows.specs.declared.action.Making.TheVariants as making
use Rattle.wf_rows.specs.declared.action.TypeTest.TheVariants.{Cast}
use Rattle.wf_machine.specs.Values.{Int, Null, Ref}
use Rattle.wf_machine.specs.Memory.{Memory}
use Rattle.wf_machine.specs.World.{World, Instruction, made}
use Rattle.wf_machine.specs.Frames.{State, running}
use Rattle.wf_machine.specs.Programs.{class_id, type_id, acting, constant, null_constant, making_object, making_array, storing_byte, loading_byte, casting, popping, invoking, returning, returning_int, blank, coded, object, ready, first_states, in_0, int, zeros, one_plain}

-- ---- instructions

abbrev pub storing_reference : ℕ → Instruction
storing_reference behind = acting (sort.ArrayStore element.Ref) (slot.Ref ∷ slot.Int ∷ slot.Ref ∷ []) [] (action.Array use_of.StoreRef) behind

-- new of class 0, whose objects have type 1
abbrev pub making_other : ℕ → Instruction
making_other behind = acting sort.New [] (slot.Ref ∷ []) (action.Makes (making.Object (Ok (record { class = class_id 0; made = type_id 1 })))) behind

-- getstatic of a field that isn't there
abbrev pub getting_nothing : ℕ → Instruction
getting_nothing behind = acting sort.GetStatic [] (slot.Int ∷ []) (action.Field (field.GetStatic (Err link.NoSuchField))) behind

-- checkcast to a class that isn't there
abbrev pub casting_to_nothing : ℕ → Instruction
casting_to_nothing behind = acting sort.Cast (slot.Ref ∷ []) (slot.Ref ∷ []) (action.Tests (Cast (Err link.NoClassDefFound))) behind

-- ---- what programs share

-- methods with these bodies, where all errors have type 9
abbrev pub failing : List (List Instruction) → World
failing bodies = record (coded 0 bodies) { thrown = λ e. Some (type_id 9) }

-- the same, where type 0 is an array of any elements, of ints at first
abbrev pub failing_with_ints : List (List Instruction) → World
failing_with_ints bodies = record (failing bodies) { is_array = λ t. t.0 == 0; has_elements = λ t e. true; first_element = λ t. int 0 }

-- an error is made, and the stack is empty
abbrev pub failed_in : Memory → State
failed_in memory = running [] (made blank memory (type_id 9) 0)

-- ---- programs, and their states, the last first

-- a[2] of an array of 2 bytes
abbrev pub loads_outside : World
loads_outside = failing_with_ints ((constant (pos 2) 1 ∷ making_array 2 ∷ constant (pos 2) 3 ∷ loading_byte 4 ∷ returning_int ∷ []) ∷ [])

abbrev pub loads_outside_states : List State
loads_outside_states = failed_in zeros ∷ in_0 3 (Ref (object 0 0) ∷ int 2 ∷ []) zeros ∷ in_0 2 (Ref (object 0 0) ∷ []) zeros ∷ in_0 1 (int 2 ∷ []) ready ∷ in_0 0 [] ready ∷ first_states

-- a[-1] = 5
abbrev pub stores_below : World
stores_below = failing_with_ints ((constant (pos 2) 1 ∷ making_array 2 ∷ constant (negsuc 0) 3 ∷ constant (pos 5) 4 ∷ storing_byte 5 ∷ returning ∷ []) ∷ [])

abbrev pub stores_below_states : List State
stores_below_states = failed_in zeros ∷ in_0 4 (Ref (object 0 0) ∷ Int (negsuc 0) ∷ int 5 ∷ []) zeros ∷ in_0 3 (Ref (object 0 0) ∷ Int (negsuc 0) ∷ []) zeros ∷ in_0 2 (Ref (object 0 0) ∷ []) zeros ∷ in_0 1 (int 2 ∷ []) ready ∷ in_0 0 [] ready ∷ first_states

abbrev pub one_null : Memory
one_null = made blank ready (type_id 0) 1

abbrev pub null_and_other : Memory
null_and_other = made blank one_null (type_id 1) 0

-- a = new A[1]; a[0] = new B(), where no B is an A
abbrev pub stores_other : World
stores_other = record (failing ((constant (pos 1) 1 ∷ making_array 2 ∷ constant (pos 0) 3 ∷ making_other 4 ∷ storing_reference 5 ∷ returning ∷ []) ∷ [])) { is_array = λ t. t.0 == 0; has_elements = λ t e. true }

abbrev pub stores_other_states : List State
stores_other_states = failed_in null_and_other ∷ in_0 4 (Ref (object 0 0) ∷ int 0 ∷ Ref (object 1 1) ∷ []) null_and_other ∷ in_0 3 (Ref (object 0 0) ∷ int 0 ∷ []) one_null ∷ in_0 2 (Ref (object 0 0) ∷ []) one_null ∷ in_0 1 (int 1 ∷ []) ready ∷ in_0 0 [] ready ∷ first_states

-- new byte[-1]
abbrev pub makes_below : World
makes_below = failing ((constant (negsuc 0) 1 ∷ making_array 2 ∷ popping 3 ∷ returning ∷ []) ∷ [])

abbrev pub makes_below_states : List State
makes_below_states = failed_in ready ∷ in_0 1 (Int (negsuc 0) ∷ []) ready ∷ in_0 0 [] ready ∷ first_states

-- (T) new C(), where no C is a T
abbrev pub casts_other : World
casts_other = failing ((making_object 1 ∷ casting 2 ∷ popping 3 ∷ returning ∷ []) ∷ [])

abbrev pub casts_other_states : List State
casts_other_states = failed_in one_plain ∷ in_0 1 (Ref (object 0 0) ∷ []) one_plain ∷ in_0 0 [] ready ∷ first_states

-- a cast to a class that isn't there lets null pass, and no object
abbrev pub casts_to_nothing : World
casts_to_nothing = failing ((null_constant 1 ∷ casting_to_nothing 2 ∷ popping 3 ∷ making_object 4 ∷ casting_to_nothing 5 ∷ returning ∷ []) ∷ [])

abbrev pub casts_to_nothing_states : List State
casts_to_nothing_states = failed_in one_plain ∷ in_0 4 (Ref (object 0 0) ∷ []) one_plain ∷ in_0 3 [] ready ∷ in_0 2 (Null ∷ []) ready ∷ in_0 1 (Null ∷ []) ready ∷ in_0 0 [] ready ∷ first_states

-- a call of null
abbrev pub calls_null : World
calls_null = failing ((null_constant 1 ∷ invoking 2 ∷ returning_int ∷ []) ∷ [])

abbrev pub calls_null_states : List State
calls_null_states = failed_in ready ∷ in_0 1 (Null ∷ []) ready ∷ in_0 0 [] ready ∷ first_states

-- a call of an object whose type selects no method
abbrev pub calls_nothing : World
calls_nothing = failing ((making_object 1 ∷ invoking 2 ∷ returning_int ∷ []) ∷ [])

abbrev pub calls_nothing_states : List State
calls_nothing_states = failed_in one_plain ∷ in_0 1 (Ref (object 0 0) ∷ []) one_plain ∷ in_0 0 [] ready ∷ first_states

-- a static field that isn't there
abbrev pub gets_nothing : World
gets_nothing = failing ((getting_nothing 1 ∷ returning_int ∷ []) ∷ [])

abbrev pub gets_nothing_states : List State
gets_nothing_states = failed_in ready ∷ in_0 0 [] ready ∷ first_states
