-- A step of the machine: one constructor for each way on from a state (JVMS 2.11, 5.5, 6.5).
use Rattle.std.specs.Prelude.{◌≡◌, ℕ, true, List, [], ◌∷◌, Option, Some, None}
use Rattle.wf_base.specs.declared.ids.ClassId.{ClassId}
use Rattle.wf_base.specs.declared.ids.FieldId.{FieldId}
use Rattle.wf_base.specs.declared.ids.MethodId.{MethodId}
use Rattle.wf_base.specs.declared.ids.TypeId.{TypeId}
use Rattle.wf_rows.specs.declared.action.Literal.{Literal}
use Rattle.wf_rows.specs.declared.summaries.SummaryEffect.{SummaryEffect}
use Rattle.wf_rows.specs.declared.throwable.Throwable.{Throwable}
use Rattle.wf_rows.specs.declared.throwable.Throwable.TheVariants as throwable
use Rattle.wf_machine.specs.Values.{Object, Value, Ref}
use Rattle.wf_machine.specs.Memory.{Memory, Fresh, InProgress, Initialized, Erroneous, is_ready, with_class, with_static, next_object}
use Rattle.wf_machine.specs.World.{World, Instruction, StaticField, Holds, HoldsLiteral, made}
use Rattle.wf_machine.specs.Stated.{IsAmong, IsLiteral}
use Rattle.wf_machine.specs.At.{Outcome, Goes, Enters, Returns, Requests, Throws, ThrowsObject, Ends}
use Rattle.wf_machine.specs.Does.{Does}
use Rattle.wf_machine.specs.Frames.{Frame, Runs, Outside, Requesting, Initializing, Beginning, Begun, BeginsCall, BeginsClass, BeginsObject, class_of_root, State, running, ended, frame_of}
use Rattle.wf_machine.specs.Unwinding.{Resumes, Unwinds, ThrowsError, moved_on}
use Rattle.wf_machine.specs.Outside.{Acts, Answers}

-- the instruction of the top frame leads to an outcome
pub record Executes (w : World) (m : MethodId) (pc : ℕ) (slots : List Value) (memory : Memory) (i : Instruction) (out : Outcome) : Type 0 where
  pub there : w.code m pc ≡ Some i
  pub does : Does (record { world = w; method = m; pc = pc; instruction = i; slots = slots; memory = memory }) i.action out

-- static fields get what they hold first, one after another
pub data Assigns (w : World) : List StaticField → Memory → Memory → Type 0 where
  none : (memory : Memory) → Assigns w [] memory memory
  value : (f : FieldId) (v : Value) (fields : List StaticField) (memory after : Memory) → Assigns w fields (with_static memory f v) after → Assigns w (record { field = f; start = Holds v } ∷ fields) memory after
  literal : (f : FieldId) (l : Literal) (o : Object) (fields : List StaticField) (memory given after : Memory) → IsLiteral w memory l o given → Assigns w fields (with_static given f (Ref o)) after → Assigns w (record { field = f; start = HoldsLiteral l } ∷ fields) memory after

-- The initialization of a class begins: it is in progress, and its static fields hold their constants or zeros (JVMS 5.5,
-- step 6).
pub data Progresses (w : World) (c : ClassId) (memory after : Memory) : Type 0 where
  progresses : Assigns w (w.static_fields c) (with_class memory c InProgress) after → Progresses w c memory after

-- One step. A state that has ended has none, nor has one whose top frame is in a method that is refused, or of a native
-- method of which the summary says nothing (own rule).
pub data Step (w : World) : State → State → Type 0 where
  -- an instruction goes on
  goes : (m : MethodId) (pc edge : ℕ) (slots : List Value) (rest : List Frame) (memory after : Memory) (i : Instruction) (given : Value) → Executes w m pc slots memory i (Goes edge given after) → Step w (running (Runs m pc slots ∷ rest) memory) (running (moved_on m i slots edge given ∷ rest) after)
  -- it calls a method; one that is abstract ends the execution (own rule)
  enters : (m n : MethodId) (pc : ℕ) (slots arguments : List Value) (rest : List Frame) (memory : Memory) (i : Instruction) (frame : Frame) → Executes w m pc slots memory i (Enters n arguments) → frame_of w n arguments ≡ Some frame → Step w (running (Runs m pc slots ∷ rest) memory) (running (frame ∷ Runs m pc slots ∷ rest) memory)
  enters_nothing : (m n : MethodId) (pc : ℕ) (slots arguments : List Value) (rest : List Frame) (memory : Memory) (i : Instruction) → Executes w m pc slots memory i (Enters n arguments) → frame_of w n arguments ≡ None → Step w (running (Runs m pc slots ∷ rest) memory) (ended (Runs m pc slots ∷ rest) memory)
  -- it returns
  returns : (m : MethodId) (pc : ℕ) (slots : List Value) (rest frames : List Frame) (memory after : Memory) (i : Instruction) (result : Option Value) → Executes w m pc slots memory i (Returns result) → Resumes w result rest memory frames after → Step w (running (Runs m pc slots ∷ rest) memory) (running frames after)
  -- it needs a class, whose initialization begins
  requests : (m : MethodId) (pc : ℕ) (slots : List Value) (rest : List Frame) (memory after : Memory) (i : Instruction) (c : ClassId) → Executes w m pc slots memory i (Requests c) → Progresses w c memory after → Step w (running (Runs m pc slots ∷ rest) memory) (running (Requesting c (w.before c) ∷ Runs m pc slots ∷ rest) after)
  -- it throws
  throws : (m : MethodId) (pc : ℕ) (slots : List Value) (rest : List Frame) (memory : Memory) (i : Instruction) (e : Throwable) (s : State) → Executes w m pc slots memory i (Throws e) → ThrowsError w e (Runs m pc slots ∷ rest) memory s → Step w (running (Runs m pc slots ∷ rest) memory) s
  throws_object : (m : MethodId) (pc : ℕ) (slots : List Value) (rest : List Frame) (memory : Memory) (i : Instruction) (o : Object) (s : State) → Executes w m pc slots memory i (ThrowsObject o) → Unwinds w o (Runs m pc slots ∷ rest) memory s → Step w (running (Runs m pc slots ∷ rest) memory) s
  -- it ends the execution
  ends : (m : MethodId) (pc : ℕ) (slots : List Value) (rest : List Frame) (memory : Memory) (i : Instruction) → Executes w m pc slots memory i Ends → Step w (running (Runs m pc slots ∷ rest) memory) (ended (Runs m pc slots ∷ rest) memory)
  -- An initialization requests that of the superclass and of superinterfaces, each in turn: it begins, it is in progress or
  -- complete, or it failed before (JVMS 5.5, step 7).
  request_begins : (c d : ClassId) (left : List ClassId) (rest : List Frame) (memory after : Memory) → memory.classes d ≡ Fresh → Progresses w d memory after → Step w (running (Requesting c (d ∷ left) ∷ rest) memory) (running (Requesting d (w.before d) ∷ Requesting c left ∷ rest) after)
  request_passes : (c d : ClassId) (left : List ClassId) (rest : List Frame) (memory : Memory) → is_ready (memory.classes d) ≡ true → Step w (running (Requesting c (d ∷ left) ∷ rest) memory) (running (Requesting c left ∷ rest) memory)
  request_fails : (c d : ClassId) (left : List ClassId) (rest : List Frame) (memory : Memory) (s : State) → memory.classes d ≡ Erroneous → ThrowsError w throwable.NoClassDefFound (Requesting c left ∷ rest) memory s → Step w (running (Requesting c (d ∷ left) ∷ rest) memory) s
  -- then its initializer runs, or it is complete (JVMS 5.5, steps 9 and 10)
  initializer : (c : ClassId) (n : MethodId) (rest : List Frame) (memory : Memory) (frame : Frame) → w.initializer c ≡ Some n → frame_of w n [] ≡ Some frame → Step w (running (Requesting c [] ∷ rest) memory) (running (frame ∷ Initializing c ∷ rest) memory)
  initializer_nothing : (c : ClassId) (n : MethodId) (rest : List Frame) (memory : Memory) → w.initializer c ≡ Some n → frame_of w n [] ≡ None → Step w (running (Requesting c [] ∷ rest) memory) (ended (Requesting c [] ∷ rest) memory)
  complete : (c : ClassId) (rest : List Frame) (memory : Memory) → w.initializer c ≡ None → Step w (running (Requesting c [] ∷ rest) memory) (running rest (with_class memory c Initialized))
  -- a native or replaced method
  acts : (m : MethodId) (arguments : List Value) (rest : List Frame) (memory after : Memory) (effects : List SummaryEffect) (e : SummaryEffect) → w.summary m ≡ Some effects → IsAmong effects e → Acts w arguments memory e after → Step w (running (Outside m arguments ∷ rest) memory) (running (Outside m arguments ∷ rest) after)
  answers : (m : MethodId) (arguments : List Value) (rest frames : List Frame) (memory given after : Memory) (effects : List SummaryEffect) (e : SummaryEffect) (result : Option Value) → w.summary m ≡ Some effects → IsAmong effects e → Answers w arguments memory e result given → Resumes w result rest given frames after → Step w (running (Outside m arguments ∷ rest) memory) (running frames after)
  outside_throws : (m : MethodId) (arguments : List Value) (rest : List Frame) (memory : Memory) (effects : List SummaryEffect) (o : Object) (s : State) → w.summary m ≡ Some effects → IsAmong memory.objects o → Unwinds w o (Outside m arguments ∷ rest) memory s → Step w (running (Outside m arguments ∷ rest) memory) s
  -- the start of a root: its class is initialized, and then it calls a method, makes an object, or is done
  root_requests : (r : Begun) (rest : List Frame) (memory after : Memory) → memory.classes (class_of_root r) ≡ Fresh → Progresses w (class_of_root r) memory after → Step w (running (Beginning r ∷ rest) memory) (running (Requesting (class_of_root r) (w.before (class_of_root r)) ∷ Beginning r ∷ rest) after)
  root_fails : (r : Begun) (rest : List Frame) (memory : Memory) (s : State) → memory.classes (class_of_root r) ≡ Erroneous → ThrowsError w throwable.NoClassDefFound (Beginning r ∷ rest) memory s → Step w (running (Beginning r ∷ rest) memory) s
  root_calls : (c : ClassId) (n : MethodId) (arguments : List Value) (rest : List Frame) (memory : Memory) (frame : Frame) → is_ready (memory.classes c) ≡ true → frame_of w n arguments ≡ Some frame → Step w (running (Beginning (BeginsCall c n arguments) ∷ rest) memory) (running (frame ∷ rest) memory)
  root_calls_nothing : (c : ClassId) (n : MethodId) (arguments : List Value) (rest : List Frame) (memory : Memory) → is_ready (memory.classes c) ≡ true → frame_of w n arguments ≡ None → Step w (running (Beginning (BeginsCall c n arguments) ∷ rest) memory) (ended (Beginning (BeginsCall c n arguments) ∷ rest) memory)
  root_done : (c : ClassId) (rest : List Frame) (memory : Memory) → is_ready (memory.classes c) ≡ true → Step w (running (Beginning (BeginsClass c) ∷ rest) memory) (running rest memory)
  root_makes : (c : ClassId) (t : TypeId) (n : MethodId) (rest : List Frame) (memory : Memory) (frame : Frame) → is_ready (memory.classes c) ≡ true → frame_of w n (Ref (next_object memory t) ∷ []) ≡ Some frame → Step w (running (Beginning (BeginsObject c t n) ∷ rest) memory) (running (frame ∷ rest) (made w memory t 0))
