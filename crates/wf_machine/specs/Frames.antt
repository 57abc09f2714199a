-- Frames and states (JVMS 2.5.2, 2.6).
use Rattle.std.specs.Prelude.{ℕ, Bool, true, false, List, [], Option, Some, None}
use Rattle.wf_base.specs.declared.ids.ClassId.{ClassId}
use Rattle.wf_base.specs.declared.ids.MethodId.{MethodId}
use Rattle.wf_base.specs.declared.ids.TypeId.{TypeId}
use Rattle.wf_machine.specs.Values.{Value, first_slots}
use Rattle.wf_machine.specs.Memory.{Memory, empty}
use Rattle.wf_machine.specs.World.{World, Entry, Code, Other, NoBody}

-- what a root does when its class is initialized
pub data Begun : Type 0 where
  -- it calls a static method of a class
  BeginsCall : (class : ClassId) (method : MethodId) (arguments : List Value) → Begun
  -- nothing more
  BeginsClass : (class : ClassId) → Begun
  -- it makes an object of a class and calls its constructor
  BeginsObject : (class : ClassId) (type : TypeId) (constructor : MethodId) → Begun

abbrev pub class_of_root : Begun → ClassId
class_of_root (BeginsCall c m arguments) = c
class_of_root (BeginsClass c) = c
class_of_root (BeginsObject c t m) = c

pub data Frame : Type 0 where
  -- A method at a place of its code. One that waits for a call or an initialization is as it was before its instruction.
  Runs : (method : MethodId) (pc : ℕ) (slots : List Value) → Frame
  -- a native or replaced method
  Outside : (method : MethodId) (arguments : List Value) → Frame
  -- the initialization of a class, and of which classes it is still to request the initialization first
  Requesting : (class : ClassId) (left : List ClassId) → Frame
  -- the initialization of a class, whose initializer has the frame above
  Initializing : (class : ClassId) → Frame
  -- the start of a root, for which its class is initialized
  Beginning : (root : Begun) → Frame

pub record State : Type 0 where
  -- the top first
  pub frames : List Frame
  pub memory : Memory
  pub ended : Bool

abbrev pub running : List Frame → Memory → State
running frames memory = record { frames = frames; memory = memory; ended = false }

abbrev pub ended : List Frame → Memory → State
ended frames memory = record { frames = frames; memory = memory; ended = true }

-- the first state: an empty stack, no object, and fresh classes
abbrev pub start : State
start = running [] empty

-- the frame of a method that is entered, where one can be made
abbrev pub framed : Entry → MethodId → List Value → Option Frame
framed (Code locals) m arguments = Some (Runs m 0 (first_slots locals arguments))
framed Other m arguments = Some (Outside m arguments)
framed NoBody m arguments = None

abbrev pub frame_of : World → MethodId → List Value → Option Frame
frame_of w m arguments = framed (w.entry m) m arguments
