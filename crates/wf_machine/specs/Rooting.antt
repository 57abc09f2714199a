-- Small programs with several roots, and with natives that return nothing, on which the machine is tried.
use Rattle.std.specs.Prelude.{pos, List, [], ◌∷◌, Some, None, ◌==◌, if◌then◌else◌}
use Rattle.wf_rows.specs.declared.roots.RootParameter.TheVariants as parameter
use Rattle.wf_rows.specs.declared.roots.RootUse.{RootUse}
use Rattle.wf_rows.specs.declared.roots.RootUse.TheVariants as root
use Rattle.wf_rows.specs.declared.summaries.SummaryEffect.TheVariants as effect
use Rattle.wf_machine.specs.Values.{Long, Null, Ref}
use Rattle.wf_machine.specs.Memory.{Memory, empty, with_class, Initialized, InProgress}
use Rattle.wf_machine.specs.World.{World, Code, Other, made}
use Rattle.wf_machine.specs.Frames.{Frame, Outside, Requesting, Beginning, BeginsCall, BeginsClass, State, running, start}
use Rattle.wf_machine.specs.Programs.{class_id, type_id, method_id, calling, returning, blank, coded, object, begins_0, begun, ready, first_states, run, in_0, failed, fails_states}

-- the root that has an object of type 0, which class 0 is
abbrev pub has_0 : RootUse
has_0 = root.Has (type_id 0) (Some (class_id 0))

abbrev pub begins_class : Frame
begins_class = Beginning (BeginsClass (class_id 0))

-- a method that returns at once
abbrev pub returns : World
returns = coded 0 ((returning ∷ []) ∷ [])

-- a root that initializes a class
abbrev pub initializes_states : List State
initializes_states = running [] ready ∷ running (begins_class ∷ []) ready ∷ running (Requesting (class_id 0) [] ∷ begins_class ∷ []) begun ∷ running (begins_class ∷ []) empty ∷ start ∷ []

-- a root that calls a method, and then one whose class is initialized by then
abbrev pub starts_twice_states : List State
starts_twice_states = running [] ready ∷ running (begins_class ∷ []) ready ∷ running [] ready ∷ in_0 0 [] ready ∷ first_states

-- a second root needs the class whose initialization failed before: NoClassDefFoundError is thrown, and the root dropped
abbrev pub fails_again_states : List State
fails_again_states = running [] (made blank failed (type_id 1) 0) ∷ running (begins_0 ∷ []) failed ∷ fails_states

-- the root that calls method 0 with a long, null and an object of type 3 or 4
abbrev pub calls_with : RootUse
calls_with = root.Calls (class_id 0) (method_id 0) (parameter.Long ∷ parameter.Ref (type_id 3 ∷ []) ∷ parameter.Ref (type_id 3 ∷ type_id 4 ∷ []) ∷ [])

abbrev pub argument : Memory
argument = made blank empty (type_id 4) 0

abbrev pub argument_begun : Memory
argument_begun = with_class argument (class_id 0) InProgress

abbrev pub argument_ready : Memory
argument_ready = with_class argument_begun (class_id 0) Initialized

abbrev pub begins_with : Frame
begins_with = Beginning (BeginsCall (class_id 0) (method_id 0) (Long (pos 7) ∷ Null ∷ Ref (object 4 0) ∷ []))

-- a method with five locals
abbrev pub takes : World
takes = coded 5 ((returning ∷ []) ∷ [])

abbrev pub takes_states : List State
takes_states = running [] argument_ready ∷ in_0 0 (Long (pos 7) ∷ Long (pos 7) ∷ Null ∷ Ref (object 4 0) ∷ Null ∷ []) argument_ready ∷ running (begins_with ∷ []) argument_ready ∷ running (Requesting (class_id 0) [] ∷ begins_with ∷ []) argument_begun ∷ running (begins_with ∷ []) argument ∷ start ∷ []

-- a call of a native method that does nothing and returns nothing
abbrev pub calls_void : World
calls_void = record (coded 0 ((calling [] [] [] 1 1 ∷ returning ∷ []) ∷ [])) { entry = λ m. if m.0 == 0 then Code 0 else Other; summary = λ m. if m.0 == 1 then Some (effect.ReturnsVoid ∷ []) else None }

abbrev pub calls_void_states : List State
calls_void_states = running [] ready ∷ in_0 1 [] ready ∷ running (Outside (method_id 1) [] ∷ run 0 0 [] ∷ []) ready ∷ in_0 0 [] ready ∷ first_states
