-- Where an instruction is executed, and what it leads to.
use Rattle.std.specs.Prelude.{ℕ, ◌-◌, List, length, map, drop, Option, unwrap_or}
use Rattle.wf_base.specs.declared.ids.ClassId.{ClassId}
use Rattle.wf_base.specs.declared.ids.MethodId.{MethodId}
use Rattle.wf_base.specs.declared.kind.Kind.{Kind}
use Rattle.wf_operation.specs.Effects.{sources}
use Rattle.wf_operation.specs.Nexts.{target}
use Rattle.wf_operation.specs.Slots.{from}
use Rattle.wf_rows.specs.declared.throwable.Throwable.{Throwable}
use Rattle.wf_machine.specs.Values.{Object, Value, Null, at_depth, top_of}
use Rattle.wf_machine.specs.Memory.{Memory}
use Rattle.wf_machine.specs.World.{World, Instruction}

-- An instruction at its place, and what there is before it.
pub record At : Type 0 where
  pub world : World
  pub method : MethodId
  pub pc : ℕ
  pub instruction : Instruction
  -- the locals, and behind them the operand stack, the top last
  pub slots : List Value
  pub memory : Memory

-- what an instruction leads to
pub data Outcome : Type 0 where
  -- along one of its edges, with a value that it gives, or Null where it gives none
  Goes : (edge : ℕ) (given : Value) (memory : Memory) → Outcome
  -- into a method
  Enters : (method : MethodId) (arguments : List Value) → Outcome
  -- out of its method
  Returns : (result : Option Value) → Outcome
  -- to the initialization of a class, after which it is executed again
  Requests : (class : ClassId) → Outcome
  -- the machine throws an error
  Throws : (error : Throwable) → Outcome
  -- an object is thrown
  ThrowsObject : (object : Object) → Outcome
  -- the execution ends: no verified code does this (own rule; JVMS 4.10)
  Ends : Outcome

-- the operand that stands so deep, where 0 is the top of the stack
abbrev pub operand : At → ℕ → Value
operand k depth = at_depth k.slots depth

-- the operand of a kind at the top
abbrev pub value : At → Kind → Value
value k kind = top_of k.slots kind

-- so many operands, the top last
abbrev pub operands : At → ℕ → List Value
operands k count = drop (length k.slots - count) k.slots

-- it goes on at the instruction behind it, and gives a value
abbrev pub gives : At → Value → Outcome
gives k v = Goes 0 v k.memory

-- the same, and gives nothing
abbrev pub goes_on : At → Memory → Outcome
goes_on k memory = Goes 0 Null memory

-- the place that an edge of an instruction leads to
abbrev pub place_along : Instruction → ℕ → ℕ
place_along i edge = unwrap_or (target i.next edge) i.behind

-- the slots behind an instruction that gives a value
abbrev pub slots_behind : Instruction → List Value → Value → List Value
slots_behind i slots given = map (from slots given Null) (sources i.effect (length slots))
