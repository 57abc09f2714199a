-- Executions, and what they enter, make and touch (this project's own, over the steps of the machine).
use Rattle.std.specs.Prelude.{◌≡◌, ℕ, ◌+◌, ℤ, List, [], ◌∷◌, slice_get, Some, Ok}
use Rattle.std.specs.Int.{w32, w64}
use Rattle.std.specs.Int.RustNames.{FitsSigned}
use Rattle.wf_base.specs.declared.ids.ClassId.{ClassId}
use Rattle.wf_base.specs.declared.ids.FieldId.{FieldId}
use Rattle.wf_base.specs.declared.ids.MethodId.{MethodId}
use Rattle.wf_base.specs.declared.ids.TypeId.{TypeId}
use Rattle.wf_base.specs.declared.kind.Kind.{Kind}
use Rattle.wf_rows.specs.declared.action.Action.{Action}
use Rattle.wf_rows.specs.declared.action.Action.TheVariants as action
use Rattle.wf_rows.specs.declared.action.FieldUse.TheVariants.{GetStatic, PutStatic, Get, Put}
use Rattle.wf_rows.specs.declared.action.StaticField.{StaticField}
use Rattle.wf_rows.specs.declared.roots.RootParameter.{RootParameter}
use Rattle.wf_rows.specs.declared.roots.RootParameter.TheVariants as parameter
use Rattle.wf_rows.specs.declared.roots.RootUse.{RootUse}
use Rattle.wf_rows.specs.declared.roots.RootUse.TheVariants as root
use Rattle.wf_machine.specs.Values.{Object, Value, Int, Long, Null, Ref}
use Rattle.wf_machine.specs.Memory.{Memory}
use Rattle.wf_machine.specs.World.{World, Instruction}
use Rattle.wf_machine.specs.Stated.{IsAmong, Makes}
use Rattle.wf_machine.specs.Frames.{Frame, Runs, Outside, Beginning, BeginsCall, BeginsClass, BeginsObject, State, running, start}
use Rattle.wf_machine.specs.Steps.{Step}

-- The arguments of a root that calls a method: any ints and longs, and null or a new object of a type that roots have.
pub data AreArguments (w : World) : List RootParameter → Memory → List Value → Memory → Type 0 where
  none : (memory : Memory) → AreArguments w [] memory [] memory
  int : (n : ℤ) (ps : List RootParameter) (vs : List Value) (memory after : Memory) → FitsSigned w32 n → AreArguments w ps memory vs after → AreArguments w (parameter.Int ∷ ps) memory (Int n ∷ vs) after
  long : (n : ℤ) (ps : List RootParameter) (vs : List Value) (memory after : Memory) → FitsSigned w64 n → AreArguments w ps memory vs after → AreArguments w (parameter.Long ∷ ps) memory (Long n ∷ vs) after
  null : (types : List TypeId) (ps : List RootParameter) (vs : List Value) (memory after : Memory) → AreArguments w ps memory vs after → AreArguments w (parameter.Ref types ∷ ps) memory (Null ∷ vs) after
  object : (types : List TypeId) (t : TypeId) (o : Object) (ps : List RootParameter) (vs : List Value) (memory given after : Memory) → IsAmong types t → Makes w memory t o given → AreArguments w ps given vs after → AreArguments w (parameter.Ref types ∷ ps) memory (Ref o ∷ vs) after

-- a root is started, where no frame is left
pub data Starts (w : World) (memory : Memory) : RootUse → State → Type 0 where
  calls : (c : ClassId) (m : MethodId) (ps : List RootParameter) (arguments : List Value) (after : Memory) → AreArguments w ps memory arguments after → Starts w memory (root.Calls c m ps) (running (Beginning (BeginsCall c m arguments) ∷ []) after)
  has : (t : TypeId) (c : ClassId) → Starts w memory (root.Has t (Some c)) (running (Beginning (BeginsClass c) ∷ []) memory)
  makes : (c : ClassId) (t : TypeId) (m : MethodId) → Starts w memory (root.Makes c t m) (running (Beginning (BeginsObject c t m) ∷ []) memory)

-- a state follows another: by a step, or as a root is started
pub data Follows (w : World) (roots : List RootUse) : State → State → Type 0 where
  steps : (s t : State) → Step w s t → Follows w roots s t
  starts : (r : RootUse) (memory : Memory) (t : State) → IsAmong roots r → Starts w memory r t → Follows w roots (running [] memory) t

-- The states of an execution, the last first.
pub data Exec (w : World) (roots : List RootUse) : List State → Type 0 where
  begins : Exec w roots (start ∷ [])
  goes_on : (s t : State) (states : List State) → Exec w roots (s ∷ states) → Follows w roots s t → Exec w roots (t ∷ s ∷ states)

-- ---- what an execution does

-- the method of a frame
pub data IsOf (m : MethodId) : Frame → Type 0 where
  runs : (pc : ℕ) (slots : List Value) → IsOf m (Runs m pc slots)
  outside : (arguments : List Value) → IsOf m (Outside m arguments)

-- A method is entered: a frame is made for it.
pub record Entered (states : List State) (m : MethodId) : Type 0 where
  pub state : State
  pub there : IsAmong states state
  pub frame : Frame
  pub has : IsAmong state.frames frame
  pub is : IsOf m frame

-- An object of a type is made, an error or a literal too.
pub record Made (states : List State) (t : TypeId) : Type 0 where
  pub state : State
  pub there : IsAmong states state
  pub object : Object
  pub has : IsAmong state.memory.objects object
  pub is : object.type ≡ t

-- the field that an instruction names, where it resolves
pub data NamesField : Action → FieldId → Type 0 where
  get_static : (f : StaticField) → NamesField (action.Field (GetStatic (Ok f))) f.field
  put_static : (f : StaticField) (kind : Kind) → NamesField (action.Field (PutStatic (Ok f) kind)) f.field
  get : (f : FieldId) → NamesField (action.Field (Get (Ok f))) f
  put : (f : FieldId) (kind : Kind) → NamesField (action.Field (Put (Ok f) kind)) f

-- the second state follows the first in an execution
pub record AreNext (states : List State) (s t : State) : Type 0 where
  pub place : ℕ
  pub first : slice_get states (place + 1) ≡ Some s
  pub second : slice_get states place ≡ Some t

-- A field is touched: an instruction that names it is executed, however that ends, or a native or replaced method writes it,
-- or a literal sets it.
pub data Touched (w : World) (states : List State) (f : FieldId) : Type 0 where
  by_instruction : (m : MethodId) (pc : ℕ) (slots : List Value) (rest : List Frame) (memory : Memory) (i : Instruction) (t : State) → AreNext states (running (Runs m pc slots ∷ rest) memory) t → w.code m pc ≡ Some i → NamesField i.action f → Touched w states f
  by_write : (s : State) → IsAmong states s → IsAmong s.memory.written f → Touched w states f
