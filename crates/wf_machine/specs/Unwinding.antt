-- How control leaves a frame: by a return, or by an exception (JVMS 2.6.4, 2.6.5, 2.10, 5.5 steps 10 and 11).
use Rattle.std.specs.Prelude.{◌≡◌, ℕ, Bool, true, false, List, [], ◌∷◌, ◌++◌, take, Option, Some, None, is_none, unwrap_or, ◌==◌}
use Rattle.std.specs.List.{find}
use Rattle.std.specs.Option.{option_map_or}
use Rattle.wf_base.specs.declared.ids.ClassId.{ClassId}
use Rattle.wf_base.specs.declared.ids.MethodId.{MethodId}
use Rattle.wf_base.specs.declared.ids.TypeId.{TypeId}
use Rattle.wf_operation.specs.Effects.{put}
use Rattle.wf_rows.specs.declared.joins.HandlerEntry.{HandlerEntry}
use Rattle.wf_rows.specs.declared.throwable.Throwable.{Throwable}
use Rattle.wf_rows.specs.declared.throwable.Throwable.TheVariants as throwable
use Rattle.wf_machine.specs.Values.{Object, Value, Null, Ref}
use Rattle.wf_machine.specs.Memory.{Memory, Initialized, Erroneous, with_class, next_object}
use Rattle.wf_machine.specs.World.{World, Instruction, made}
use Rattle.wf_machine.specs.At.{place_along, slots_behind}
use Rattle.wf_machine.specs.Frames.{Frame, Runs, Outside, Requesting, Initializing, Beginning, Begun, State, running, ended}

-- ---- returns

-- the frame of an instruction that goes on along an edge, and gives a value
abbrev pub moved_on : MethodId → Instruction → List Value → ℕ → Value → Frame
moved_on m i slots edge given = Runs m (place_along i edge) (slots_behind i slots given)

-- A return gives a value exactly where the call takes one.
abbrev pub Fits : Instruction → Option Value → Type 0
Fits i result = (put i.effect == 0) ≡ is_none result

-- what is below a frame goes on as it returns
pub data Resumes (w : World) (result : Option Value) : List Frame → Memory → List Frame → Memory → Type 0 where
  -- the method that called it
  caller : (m : MethodId) (pc : ℕ) (slots : List Value) (rest : List Frame) (memory : Memory) (i : Instruction) → w.code m pc ≡ Some i → Fits i result → Resumes w result (Runs m pc slots ∷ rest) memory (moved_on m i slots 0 (unwrap_or result Null) ∷ rest) memory
  -- the initialization that ran it is complete (JVMS 5.5, step 10)
  initialization : (c : ClassId) (rest : List Frame) (memory : Memory) → Resumes w result (Initializing c ∷ rest) memory rest (with_class memory c Initialized)
  -- a root is done
  root : (memory : Memory) → Resumes w result [] memory [] memory

-- ---- exceptions

-- whether an entry of the exception table catches objects of a type; one whose class isn't there catches nothing (own rule)
abbrev pub catches : World → TypeId → HandlerEntry → Bool
catches w t h = option_map_or (w.is_under t) h.catches false

-- the first entry that covers a place and catches the type
abbrev pub handler_of : World → MethodId → ℕ → TypeId → Option HandlerEntry
handler_of w m pc t = find (catches w t) (w.handlers m pc)

-- the frame of a handler: the locals stay, and the stack has the object alone
abbrev pub handling : MethodId → List Value → HandlerEntry → Object → Frame
handling m slots h o = Runs m h.target (take h.locals slots ++ Ref o ∷ [])

-- An object that is thrown is carried out of frames to the first handler, or to the empty stack, in one step. On the way
-- initializations fail: an object of the initializer that isn't under java/lang/Error is replaced by an
-- ExceptionInInitializerError, whose fields are zero; where that isn't there the execution ends (own rule).
pub data Unwinds (w : World) : Object → List Frame → Memory → State → Type 0 where
  caught : (o : Object) (m : MethodId) (pc : ℕ) (slots : List Value) (rest : List Frame) (memory : Memory) (h : HandlerEntry) → handler_of w m pc o.type ≡ Some h → Unwinds w o (Runs m pc slots ∷ rest) memory (running (handling m slots h o ∷ rest) memory)
  leaves : (o : Object) (m : MethodId) (pc : ℕ) (slots : List Value) (rest : List Frame) (memory : Memory) (s : State) → handler_of w m pc o.type ≡ None → Unwinds w o rest memory s → Unwinds w o (Runs m pc slots ∷ rest) memory s
  leaves_outside : (o : Object) (m : MethodId) (arguments : List Value) (rest : List Frame) (memory : Memory) (s : State) → Unwinds w o rest memory s → Unwinds w o (Outside m arguments ∷ rest) memory s
  -- out of the initialization of a superclass or a superinterface
  fails_before : (o : Object) (c : ClassId) (left : List ClassId) (rest : List Frame) (memory : Memory) (s : State) → Unwinds w o rest (with_class memory c Erroneous) s → Unwinds w o (Requesting c left ∷ rest) memory s
  -- out of the initializer
  fails : (o : Object) (c : ClassId) (rest : List Frame) (memory : Memory) (s : State) → w.is_error o.type ≡ true → Unwinds w o rest (with_class memory c Erroneous) s → Unwinds w o (Initializing c ∷ rest) memory s
  fails_replaced : (o : Object) (c : ClassId) (t : TypeId) (rest : List Frame) (memory : Memory) (s : State) → w.is_error o.type ≡ false → w.thrown throwable.ExceptionInInitializer ≡ Some t → Unwinds w (next_object memory t) rest (with_class (made w memory t 0) c Erroneous) s → Unwinds w o (Initializing c ∷ rest) memory s
  fails_ended : (o : Object) (c : ClassId) (rest : List Frame) (memory : Memory) → w.is_error o.type ≡ false → w.thrown throwable.ExceptionInInitializer ≡ None → Unwinds w o (Initializing c ∷ rest) memory (ended (Initializing c ∷ rest) memory)
  -- the root is dropped
  drops : (o : Object) (root : Begun) (rest : List Frame) (memory : Memory) (s : State) → Unwinds w o rest memory s → Unwinds w o (Beginning root ∷ rest) memory s
  empties : (o : Object) (memory : Memory) → Unwinds w o [] memory (running [] memory)

-- The machine throws an error of its own: an object of its class is made. Where the class isn't a loadable one that has
-- objects, the execution ends (own rule).
pub data ThrowsError (w : World) (e : Throwable) (frames : List Frame) (memory : Memory) : State → Type 0 where
  throws : (t : TypeId) (s : State) → w.thrown e ≡ Some t → Unwinds w (next_object memory t) frames (made w memory t 0) s → ThrowsError w e frames memory s
  ends : w.thrown e ≡ None → ThrowsError w e frames memory (ended frames memory)
