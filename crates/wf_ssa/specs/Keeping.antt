-- What is kept of environments, and the walk back from a place to where something is kept (this project's own).
use Rattle.std.specs.Prelude.{◌≡◌, ℕ, zero, suc, ◌-◌, ◌<◌, ◌==◌, ◌||◌, ◌&&◌, not, Bool, true, false, List, [], ◌∷◌, length, Option, Some, None, is_some, slice_index_or, slice_get, nat_lt, if◌then◌else◌}
use Rattle.wf_operation.specs.declared.operation.Operation.{Operation}
use Rattle.wf_operation.specs.declared.slot.Source.{Source}
use Rattle.wf_operation.specs.declared.slot.Source.TheVariants.{Keep, KeepNoHead, KeepNoRest, Gives}
use Rattle.wf_operation.specs.Effects.{source_at}
use Rattle.wf_operation.specs.Operations.{link_of}
use Rattle.wf_blocks.specs.declared.body.Body.{Body}
use Rattle.wf_blocks.specs.Answers.{AreReached}
use Rattle.wf_blocks.specs.Bodies.{graph_of, operation_at, targets_at, starts_at}
use Rattle.wf_blocks.specs.Graphs.{Reached}
use Rattle.wf_ssa.specs.declared.before.Before.{Before}
use Rattle.wf_ssa.specs.declared.name.FlowName.{FlowName}
use Rattle.wf_ssa.specs.declared.name.FlowName.TheVariants.{Nothing, Res, Refined}
use Rattle.wf_ssa.specs.declared.walk.Origin.{Origin}
use Rattle.wf_ssa.specs.declared.walk.Origin.TheVariants.{Slot, Name}
use Rattle.wf_ssa.specs.Environments.{name_at, operand_slot, refined, renamed, refines, linked, fails_there, meets, IsKnown}

-- marks at the places in bytes whose resolution fails
pub record AreFails (failing : List ℕ) (fails : List Bool) : Type 0 where
  pub each : (pc : ℕ) → pc < 65536 → slice_index_or fails pc false ≡ fails_there failing pc

-- marks at the places where ways meet
pub record AreMeets (b : Body) (met : List Bool) : Type 0 where
  pub each : (marks : List Bool) (place : ℕ) → AreReached b marks → place < length b.steps → slice_index_or met place false ≡ meets b marks place

-- ---- the walk back

abbrev pub refines_at : Option Operation → Bool
refines_at None = true
refines_at (Some o) = refines o.next

-- The walk back ends where ways meet or a block starts, and where something is left of an operand in front of a place.
abbrev pub ends : Body → List Bool → ℕ → Bool
ends b met place = slice_index_or met place false || starts_at b place || refines_at (operation_at b (place - 1))

abbrev pub goes_back : Body → List Bool → ℕ → Bool
goes_back b met place = nat_lt 0 place && not (ends b met place)

abbrev pub row_at : List (Option Before) → ℕ → Option Before
row_at known place = slice_index_or known place None

-- whether something is kept of a place where the walk ends
abbrev pub answers_at : List Bool → List (Option Before) → ℕ → Bool
answers_at met known place = slice_index_or met place false || place == 0 || is_some (row_at known place)

-- the same of the place where the walk back from a place ends
abbrev pub answered : Body → List Bool → List (Option Before) → ℕ → Bool
answered b met known zero = answers_at met known 0
answered b met known (suc place) = if ends b met (suc place) then answers_at met known (suc place) else answered b met known place

-- where a slot comes from: a slot in front of the instruction, or it has a name of its own
abbrev pub origin_from : ℕ → Source → Origin
origin_from pc (Keep i) = Slot i
origin_from pc (KeepNoHead i) = Slot i
origin_from pc (KeepNoRest i) = Slot i
origin_from pc (Gives kind) = Name (Res pc)

-- the same of a slot behind an instruction, where n slots are in front of it and m behind it
abbrev pub origin_by : ℕ → Option Operation → Option ℕ → Option ℕ → ℕ → Origin
origin_by pc (Some o) (Some n) (Some m) slot = if nat_lt slot m then origin_from pc (source_at o.effect n slot) else Name Nothing
origin_by pc o n m slot = Name Nothing

abbrev pub named : List FlowName → Origin → FlowName
named names (Slot i) = name_at names i
named names (Name f) = f

-- the flows in front of an instruction, with the operands' names along an edge
abbrev pub renamed_by : Option Operation → ℕ → ℕ → List FlowName → List FlowName
renamed_by None pc edge names = []
renamed_by (Some o) pc edge names = renamed pc o edge names

-- the slot of an operand, where so many slots are in front of the instruction
abbrev pub slot_by : Option Operation → Option ℕ → ℕ → ℕ
slot_by (Some o) (Some n) operand = operand_slot o.effect n operand
slot_by o n operand = 0

-- a flow in front of an instruction with the operands' names along an edge, if its slot is there
abbrev pub name_by : ℕ → Option Operation → Option ℕ → ℕ → FlowName → FlowName → ℕ → FlowName → FlowName
name_by pc (Some o) (Some n) edge one two slot name = if nat_lt slot n then refined pc o.next edge one two name else Nothing
name_by pc o n edge one two slot name = Nothing

-- the predicate behind an instruction that leaves nothing of its operands
abbrev pub linked_by : Option Operation → ℕ → Bool → FlowName → FlowName
linked_by None pc fails before = before
linked_by (Some o) pc fails before = linked pc (link_of o.sort) fails before

-- the predicate along an edge of an instruction, where it is `other` if nothing is left of an operand
abbrev pub left_by : ℕ → Option Operation → ℕ → FlowName → FlowName
left_by pc None edge other = other
left_by pc (Some o) edge other = if refines o.next then Refined pc edge 1 else other

-- ---- what is kept

-- what is kept of a place is what is known there
pub record AreSound (b : Body) (failing : List ℕ) (known : List (Option Before)) : Type 0 where
  pub each : (place : ℕ) (row k : Before) → row_at known place ≡ Some row → IsKnown b failing place k → row ≡ k

-- An edge leads to a place inside a block, or something is kept of that place.
pub record IsFilled (b : Body) (met : List Bool) (known : List (Option Before)) (to : ℕ) : Type 0 where
  pub inside : to < length b.steps → ends b met to ≡ true → answers_at met known to ≡ true

-- All edges of a place that a path reaches do so, where something is kept for that place.
pub record IsLeft (b : Body) (met : List Bool) (known : List (Option Before)) (place : ℕ) : Type 0 where
  pub each : (edge to : ℕ) → Reached (graph_of b) place → answered b met known place ≡ true → slice_get (targets_at b place) edge ≡ Some to → IsFilled b met known to

-- All is kept that the walks back need.
pub record AreKnown (b : Body) (failing : List ℕ) (fails met : List Bool) (known : List (Option Before)) : Type 0 where
  pub failed : AreFails failing fails
  pub met_are : AreMeets b met
  pub sound : AreSound b failing known
  pub all : (place : ℕ) (k : Before) → IsKnown b failing place k → answered b met known place ≡ true

-- how many places nothing is kept of
abbrev pub nones : List (Option Before) → ℕ
nones [] = 0
nones (None ∷ known) = suc (nones known)
nones (Some row ∷ known) = nones known
