-- Small programs whose classes fail to be initialized, or whose methods have no body, on which the machine is tried.
use Rattle.std.specs.Prelude.{true, List, [], ◌∷◌, Some, None, ◌==◌, if◌then◌else◌}
use Rattle.wf_rows.specs.declared.roots.RootUse.{RootUse}
use Rattle.wf_rows.specs.declared.roots.RootUse.TheVariants as root
use Rattle.wf_machine.specs.Values.{Null, Ref}
use Rattle.wf_machine.specs.Memory.{Memory, empty, with_class, InProgress, Initialized, Erroneous}
use Rattle.wf_machine.specs.World.{World, made}
use Rattle.wf_machine.specs.Frames.{Frame, Requesting, Initializing, Beginning, BeginsCall, BeginsClass, State, running, ended, start}
use Rattle.wf_machine.specs.Programs.{class_id, type_id, method_id, null_constant, making_object, throwing, returning, blank, coded, object, begins_0, begun, ready, run, error_type}

-- the root that has an object of type 1, which class 1 is
abbrev pub has_1 : RootUse
has_1 = root.Has (type_id 1) (Some (class_id 1))

abbrev pub begins_1 : Frame
begins_1 = Beginning (BeginsClass (class_id 1))

abbrev pub begun_1 : Memory
begun_1 = with_class empty (class_id 1) InProgress

-- what was thrown is replaced by an ExceptionInInitializerError
abbrev pub failed_1 : Memory
failed_1 = with_class (made blank (made blank begun_1 (type_id 1) 0) (type_id 2) 0) (class_id 1) Erroneous

abbrev pub begun_below : Memory
begun_below = with_class failed_1 (class_id 0) InProgress

abbrev pub failed_below : Memory
failed_below = with_class (made blank begun_below (type_id 1) 0) (class_id 0) Erroneous

-- The initializer of class 1 throws. Then class 0, whose superclass it is, fails for that.
abbrev pub fails_below : World
fails_below = record (coded 0 ((returning ∷ []) ∷ (null_constant 1 ∷ throwing ∷ []) ∷ [])) { initializer = λ c. if c.0 == 1 then Some (method_id 1) else None; before = λ c. if c.0 == 0 then class_id 1 ∷ [] else []; thrown = error_type; is_error = λ t. t.0 == 2 }

abbrev pub fails_below_states : List State
fails_below_states = running [] failed_below ∷ running (Requesting (class_id 0) (class_id 1 ∷ []) ∷ begins_0 ∷ []) begun_below ∷ running (begins_0 ∷ []) failed_1 ∷ running [] failed_1 ∷ running (run 1 1 (Null ∷ []) ∷ Initializing (class_id 1) ∷ begins_1 ∷ []) begun_1 ∷ running (run 1 0 [] ∷ Initializing (class_id 1) ∷ begins_1 ∷ []) begun_1 ∷ running (Requesting (class_id 1) [] ∷ begins_1 ∷ []) begun_1 ∷ running (begins_1 ∷ []) empty ∷ start ∷ []

abbrev pub above_begun : Memory
above_begun = with_class begun (class_id 1) InProgress

abbrev pub above_ready : Memory
above_ready = with_class above_begun (class_id 1) Initialized

-- a class that is initialized before is passed over
abbrev pub passes : World
passes = record (coded 0 ((returning ∷ []) ∷ [])) { before = λ c. if c.0 == 0 then class_id 1 ∷ class_id 1 ∷ [] else [] }

abbrev pub passes_states : List State
passes_states = running (begins_0 ∷ []) (with_class above_ready (class_id 0) Initialized) ∷ running (Requesting (class_id 0) [] ∷ begins_0 ∷ []) above_ready ∷ running (Requesting (class_id 0) (class_id 1 ∷ []) ∷ begins_0 ∷ []) above_ready ∷ running (Requesting (class_id 1) [] ∷ Requesting (class_id 0) (class_id 1 ∷ []) ∷ begins_0 ∷ []) above_begun ∷ running (Requesting (class_id 0) (class_id 1 ∷ class_id 1 ∷ []) ∷ begins_0 ∷ []) begun ∷ running (begins_0 ∷ []) empty ∷ start ∷ []

abbrev pub thrown_0 : Memory
thrown_0 = made blank begun (type_id 0) 0

-- an initializer that throws an object that it makes
abbrev pub throwing_one : World
throwing_one = record (coded 0 ((returning ∷ []) ∷ (making_object 1 ∷ throwing ∷ []) ∷ [])) { initializer = λ c. Some (method_id 1) }

abbrev pub thrown_states : List State
thrown_states = running (run 1 1 (Ref (object 0 0) ∷ []) ∷ Initializing (class_id 0) ∷ begins_0 ∷ []) thrown_0 ∷ running (run 1 0 [] ∷ Initializing (class_id 0) ∷ begins_0 ∷ []) begun ∷ running (Requesting (class_id 0) [] ∷ begins_0 ∷ []) begun ∷ running (begins_0 ∷ []) empty ∷ start ∷ []

-- the object is under java/lang/Error: it is thrown on as it is
abbrev pub fails_as_error : World
fails_as_error = record throwing_one { is_error = λ t. true }

abbrev pub fails_as_error_states : List State
fails_as_error_states = running [] (with_class thrown_0 (class_id 0) Erroneous) ∷ thrown_states

-- it isn't, and ExceptionInInitializerError is no class that is there: the execution ends
abbrev pub fails_ended : World
fails_ended = throwing_one

abbrev pub fails_ended_states : List State
fails_ended_states = ended (Initializing (class_id 0) ∷ begins_0 ∷ []) thrown_0 ∷ thrown_states

-- an initializer that has no body: the execution ends
abbrev pub initializes_nothing : World
initializes_nothing = record (coded 0 ((returning ∷ []) ∷ [])) { initializer = λ c. Some (method_id 5) }

abbrev pub initializes_nothing_states : List State
initializes_nothing_states = ended (Requesting (class_id 0) [] ∷ begins_0 ∷ []) begun ∷ running (Requesting (class_id 0) [] ∷ begins_0 ∷ []) begun ∷ running (begins_0 ∷ []) empty ∷ start ∷ []

-- the root that calls method 5, which has no body
abbrev pub calls_5 : RootUse
calls_5 = root.Calls (class_id 0) (method_id 5) []

abbrev pub begins_5 : Frame
begins_5 = Beginning (BeginsCall (class_id 0) (method_id 5) [])

abbrev pub starts_nothing_states : List State
starts_nothing_states = ended (begins_5 ∷ []) ready ∷ running (begins_5 ∷ []) ready ∷ running (Requesting (class_id 0) [] ∷ begins_5 ∷ []) begun ∷ running (begins_5 ∷ []) empty ∷ start ∷ []
