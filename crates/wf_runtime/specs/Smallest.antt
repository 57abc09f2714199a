-- The smallest program: java/lang/Object alone, which declares nothing. Its world shows that look-ups can be told so.
use Rattle.std.specs.Prelude.{List, ◌==◌, ◌&&◌, ◌||◌, false, [], ◌∷◌, None, Err}
use Rattle.wf_data.specs.declared.class_info.ClassInfo.{ClassInfo}
use Rattle.wf_names.specs.Names.{object_name}
use Rattle.wf_subtype.specs.Subtypes.{AllTypes}
use Rattle.wf_rows.specs.declared.throwable.Throwable.TheVariants as throwable
use Rattle.wf_machine.specs.Values.{Null}
use Rattle.wf_machine.specs.World.{World, NoBody}
use Rattle.wf_binding.specs.declared.numbers.RootNumbers.{RootNumbers}
use Rattle.wf_binding.specs.declared.numbers.RootNumbers.TheVariants.{Inst}
use Rattle.wf_machine.specs.Frames.{Frame, Requesting, Beginning, BeginsClass, State, running, start}
use Rattle.wf_machine.specs.Memory.{Memory, empty, with_class, InProgress, Initialized}
use Rattle.wf_runtime.specs.Summaries.{Run}
use Rattle.wf_runtime.specs.Types.{class_reference}

abbrev pub object_class : ClassInfo
object_class = record { name = object_name; superclass = None; interfaces = []; flags = 33; major = 52; pool = []; fields = []; methods = [] }

-- the class is type 1 and target 0
abbrev pub types : AllTypes
types = record { classes = object_class ∷ []; names = object_name ∷ []; references = class_reference 0 ∷ []; deepest = 0 }

abbrev pub smallest : Run
smallest = record { types = types; summary = record { blocks = []; literals = [] } }

abbrev pub world : World
world = record { code = λ m pc. None; entry = λ m. NoBody; handlers = λ m pc. []; selects = λ m pc t. Err throwable.AbstractMethod; is_under = λ t u. t.0 == 0 || (t.0 == 1 && u.0 == 0); is_array = λ t. false; has_elements = λ t e. false; may_hold = λ array t. false; first_value = λ t f. None; first_element = λ t. Null; is_static = λ f. false; initializer = λ c. None; static_fields = λ c. []; before = λ c. []; is_error = λ t. false; thrown = λ e. None; summary = λ m. None }

-- the root that has an object of the class
abbrev pub roots : List RootNumbers
roots = Inst (record { 0 = 1 }) ∷ []

abbrev pub begins : Frame
begins = Beginning (BeginsClass (record { 0 = 0 }))

abbrev pub begun : Memory
begun = with_class empty (record { 0 = 0 }) InProgress

-- the class is initialized
abbrev pub states : List State
states = running [] (with_class begun (record { 0 = 0 }) Initialized) ∷ running (begins ∷ []) (with_class begun (record { 0 = 0 }) Initialized) ∷ running (Requesting (record { 0 = 0 }) [] ∷ begins ∷ []) begun ∷ running (begins ∷ []) empty ∷ start ∷ []
