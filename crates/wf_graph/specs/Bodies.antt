-- The body of a method, as its part of the system is made from it (this project's own, after SkipFlow, CGO 2025): what its
-- instructions do and its handlers catch, which places paths reach, and what is known in front of them.
use Rattle.std.specs.Prelude.{◌≡◌, ℕ, ◌+◌, ◌<◌, ◌^◌, Bool, true, false, List, length, take, Option, Some, None, slice_get, slice_index_or}
use Rattle.std.specs.List.{count_by}
use Rattle.wf_base.specs.declared.ids.MethodId.{MethodId}
use Rattle.wf_data.specs.declared.instr.Placed.{Placed}
use Rattle.wf_operation.specs.declared.next.Next.{Next}
use Rattle.wf_operation.specs.declared.next.Next.TheVariants.{Switches}
use Rattle.wf_operation.specs.declared.operation.Operation.{Operation}
use Rattle.wf_operation.specs.declared.slot.SlotKind.{SlotKind}
use Rattle.wf_blocks.specs.declared.body.Body.{Body as Shape}
use Rattle.wf_blocks.specs.declared.body.Step.{Step}
use Rattle.wf_blocks.specs.Answers.{AreReached, HasSlots}
use Rattle.wf_blocks.specs.Bodies.{graph_of}
use Rattle.wf_blocks.specs.Graphs.{Reached, KindIs}
use Rattle.wf_blocks.specs.Methods.{body_of}
use Rattle.wf_ssa.specs.declared.before.Before.{Before}
use Rattle.wf_ssa.specs.Environments.{IsBefore, meets}
use Rattle.wf_rows.specs.declared.action.Action.{Action}
use Rattle.wf_rows.specs.declared.joins.HandlerEntry.{HandlerEntry}
use Rattle.wf_body.specs.Methods.{failing_of}
use Rattle.wf_body.specs.Parts.{Parts}
use Rattle.wf_body.specs.Reading.{IsRead}
use Rattle.wf_body.specs.Sources.{MethodSource}

pub record Body : Type 0 where
  pub method : MethodId
  pub shape : Shape
  -- marks at the places that a path reaches
  pub marks : List Bool
  -- what the instruction at each place does
  pub acts : List (Option Action)
  -- what each entry of the exception table catches, where its handler is reached
  pub handlers : List (Option HandlerEntry)
  -- what the slots are at a reached place where ways meet
  pub kinds : ℕ → List SlotKind
  -- what is known in front of a reached place
  pub before : ℕ → Before
  -- the number of the keys of its first switch
  pub first_keys : ℕ

abbrev pub is_marked : List Bool → ℕ → Bool
is_marked marks place = slice_index_or marks place false

abbrev pub is_reached : Body → ℕ → Bool
is_reached b place = is_marked b.marks place

-- the places in bytes whose resolution fails
abbrev pub failing_in : Body → List ℕ
failing_in b = failing_of b.shape b.acts

-- ---- switches

abbrev pub is_switch : Next → Bool
is_switch (Switches cases default) = true
is_switch other = false

abbrev pub switches : Option Operation → Bool
switches (Some o) = is_switch o.next
switches None = false

abbrev pub is_switch_at : Step → Bool
is_switch_at step = switches step.operation

-- the number of the keys of the switch at a place, where it is one: its switches stand one behind another
abbrev pub keys_at : Body → ℕ → ℕ
keys_at b place = b.first_keys + count_by is_switch_at (take place b.shape.steps)

-- the switches of a shape have numbers of four bytes
abbrev pub HasKeys : ℕ → Shape → Type 0
HasKeys first shape = first + count_by is_switch_at shape.steps < 2 ^ 32

-- ---- slots where ways meet

-- what the slots are at a place, all of them
pub record AreKindsOf (shape : Shape) (place : ℕ) (kinds : List SlotKind) : Type 0 where
  pub count : HasSlots shape place (length kinds)
  pub each : (slot : ℕ) (kind : SlotKind) → slice_get kinds slot ≡ Some kind → KindIs (graph_of shape) place slot kind

pub record AreKinds (shape : Shape) (marks : List Bool) (kinds : ℕ → List SlotKind) : Type 0 where
  pub at : (place : ℕ) → Reached (graph_of shape) place → meets shape marks place ≡ true → AreKindsOf shape place (kinds place)

-- ---- what is known

pub record AreBefore (shape : Shape) (failing : List ℕ) (marks : List Bool) (before : ℕ → Before) : Type 0 where
  pub at : (place : ℕ) → Reached (graph_of shape) place → IsBefore shape failing marks place (before place)

-- ---- the body of a method

-- this is the body of the method
pub record HasBody (p : Parts) (s : MethodSource) (b : Body) : Type 0 where
  pub placed : List Placed
  pub read : IsRead p s placed b.shape b.acts b.handlers
  pub method : b.method ≡ s.id
  pub reached : AreReached b.shape b.marks
  pub kinds : AreKinds b.shape b.marks b.kinds
  pub before : AreBefore b.shape (failing_in b) b.marks b.before

-- its switches have numbers of four bytes
abbrev pub HasKeysOf : MethodSource → ℕ → Type 0
HasKeysOf s first = (placed : List Placed) (shape : Shape) → body_of s.desc s.is_static s.pool s.code placed ≡ Some shape → HasKeys first shape
