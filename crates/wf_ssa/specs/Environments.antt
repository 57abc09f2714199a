-- Where the values in front of a place come from, by names of the method's own (the environments of SkipFlow, CGO 2025).
use Rattle.std.specs.Prelude.{◌≡◌, ℕ, ◌+◌, ◌-◌, ◌<◌, Bool, true, false, not, ◌&&◌, ◌||◌, List, [], map, length, slice_index_or, slice_get, Option, Some, None, is_none, unwrap_or, option_map, ◌==◌, if◌then◌else◌}
use Rattle.std.specs.List.{range_with_len, list_any}
use Rattle.wf_operation.specs.declared.effect.Effect.{Effect}
use Rattle.wf_operation.specs.declared.next.Next.{Next}
use Rattle.wf_operation.specs.declared.next.Next.TheVariants.{Branches, Switches}
use Rattle.wf_operation.specs.declared.operation.Link.{Link}
use Rattle.wf_operation.specs.declared.operation.Link.TheVariants.{Plain, Calls, Tests}
use Rattle.wf_operation.specs.declared.operation.Operation.{Operation}
use Rattle.wf_operation.specs.declared.slot.SlotKind.{SlotKind}
use Rattle.wf_operation.specs.declared.slot.SlotKind.TheVariants.{Unused}
use Rattle.wf_operation.specs.Effects.{taken, sources}
use Rattle.wf_operation.specs.Nexts.{left_of}
use Rattle.wf_operation.specs.Operations.{link_of}
use Rattle.wf_operation.specs.Slots.{from, same_kind}
use Rattle.wf_blocks.specs.declared.body.Body.{Body}
use Rattle.wf_blocks.specs.declared.body.Step.{Step}
use Rattle.wf_blocks.specs.Answers.{AreReached, edges_in, HasSlots}
use Rattle.wf_blocks.specs.Bodies.{graph_of, is_handler, operation_at, targets_at, locals_of}
use Rattle.wf_blocks.specs.Graphs.{Reached, KindIs, kind_at}
use Rattle.wf_ssa.specs.declared.before.Before.{Before}
use Rattle.wf_ssa.specs.declared.name.FlowName.{FlowName}
use Rattle.wf_ssa.specs.declared.name.FlowName.TheVariants.{Nothing, Entry, Par, Res, Refined, Blk, Phi, Cat}

-- the name of a slot; nothing stands past the end
abbrev pub name_at : List FlowName → ℕ → FlowName
name_at names i = slice_index_or names i Nothing

-- ---- names

-- whether two names are one
abbrev pub same_name : FlowName → FlowName → Bool
same_name Nothing Nothing = true
same_name Entry Entry = true
same_name (Par i) (Par j) = i == j
same_name (Res p) (Res q) = p == q
same_name (Refined p e o) (Refined q f r) = p == q && e == f && o == r
same_name (Blk p) (Blk q) = p == q
same_name (Phi p i) (Phi q j) = p == q && i == j
same_name (Cat i) (Cat j) = i == j
same_name a b = false

-- the place of an instruction in bytes
abbrev pub pc_at : Body → ℕ → ℕ
pc_at b place = unwrap_or (option_map (λ (s : Step). s.pc) (slice_get b.steps place)) 0

-- ---- along an edge

-- the slot of an operand, where operand 1 stands below operand 2 and so many slots are in front of the instruction
abbrev pub operand_slot : Effect → ℕ → ℕ → ℕ
operand_slot e count operand = count - taken e + operand - 1

-- whether an edge leaves something of an operand
abbrev pub leaves : Next → ℕ → ℕ → Bool
leaves next edge operand = not (is_none (left_of next edge operand))

-- A flow along an edge, by the flows of the operands: that of operand 1 where it is both.
abbrev pub refined : ℕ → Next → ℕ → FlowName → FlowName → FlowName → FlowName
refined pc next edge one two name =
    if leaves next edge 1 && same_name name one then Refined pc edge 1
    else if leaves next edge 2 && same_name name two then Refined pc edge 2 else name

-- whether a branch or a switch
abbrev pub refines : Next → Bool
refines (Branches test to) = true
refines (Switches cases default) = true
refines other = false

-- The flows in front of an instruction, with the operands' names along an edge.
abbrev pub renamed : ℕ → Operation → ℕ → List FlowName → List FlowName
renamed pc o edge names =
    map (refined pc o.next edge (name_at names (operand_slot o.effect (length names) 1)) (name_at names (operand_slot o.effect (length names) 2))) names

-- The flows behind an edge of an instruction: operands are renamed first, and slots moved then.
abbrev pub names_along : ℕ → Operation → ℕ → List FlowName → List FlowName
names_along pc o edge names = map (from (renamed pc o edge names) (Res pc) Nothing) (sources o.effect (length names))

-- The predicate behind an instruction: a call gives its own; behind a failing resolution nothing is reached, but behind
-- a cast or a test for null.
abbrev pub linked : ℕ → Link → Bool → FlowName → FlowName
linked pc Plain fails before = if fails then Nothing else before
linked pc Calls fails before = if fails then Nothing else Res pc
linked pc Tests fails before = if fails then Res pc else before

abbrev pub predicate_along : ℕ → Operation → ℕ → Bool → FlowName → FlowName
predicate_along pc o edge fails before = if refines o.next then Refined pc edge 1 else linked pc (link_of o.sort) fails before

-- What is known along an edge of an instruction. Where an operand is wrong there is no instruction, and no path goes on.
abbrev pub before_along : Option Operation → ℕ → ℕ → Bool → Before → Before
before_along None pc edge fails k = record { predicate = k.predicate; names = [] }
before_along (Some o) pc edge fails k = record { predicate = predicate_along pc o edge fails k.predicate; names = names_along pc o edge k.names }

-- whether the resolution at a place fails
abbrev pub fails_there : List ℕ → ℕ → Bool
fails_there failing pc = list_any (λ p. p == pc) failing

-- What is known along an edge of the instruction at a place.
abbrev pub along_edge : Body → List ℕ → ℕ → ℕ → Before → Before
along_edge b failing place edge k = before_along (operation_at b place) (pc_at b place) edge (fails_there failing (pc_at b place)) k

-- ---- the entry, and where ways meet

-- the flow of a slot at the entry
abbrev pub entry_name : Body → ℕ → FlowName
entry_name b i = if same_kind (kind_at b.entry i) Unused then Nothing else Par (slice_index_or b.params i 0)

abbrev pub entry_before : Body → Before
entry_before b = record { predicate = Entry; names = map (entry_name b) (range_with_len 0 (locals_of b)) }

-- ways meet at a place that is a handler, or to which other than one way leads
abbrev pub meets : Body → List Bool → ℕ → Bool
meets b marks place = list_any (is_handler place) b.catchers || not (edges_in b marks place == 1)

-- a slot that is used has a flow of its own where ways meet
abbrev pub met_name : ℕ → SlotKind → ℕ → FlowName
met_name pc Unused slot = Nothing
met_name pc kind slot = Phi pc slot

pub record IsMet (b : Body) (place : ℕ) (k : Before) : Type 0 where
  pub predicate : k.predicate ≡ Blk (pc_at b place)
  pub count : HasSlots b place (length k.names)
  pub kind : ℕ → SlotKind
  pub kinds : (slot : ℕ) → KindIs (graph_of b) place slot (kind slot)
  pub names : (slot : ℕ) → slot < length k.names → name_at k.names slot ≡ met_name (pc_at b place) (kind slot) slot

-- What is known in front of a place: of the one edge that leads there, of the entry, or of the ways that meet.
pub data IsBefore (b : Body) (failing : List ℕ) (marks : List Bool) : ℕ → Before → Type 0 where
  met : (place : ℕ) (k : Before) → Reached (graph_of b) place → meets b marks place ≡ true → IsMet b place k → IsBefore b failing marks place k
  entered : meets b marks 0 ≡ false → IsBefore b failing marks 0 (entry_before b)
  single : (place edge to : ℕ) (k : Before) → IsBefore b failing marks place k → slice_get (targets_at b place) edge ≡ Some to → meets b marks to ≡ false
      → IsBefore b failing marks to (along_edge b failing place edge k)

-- the same, with the marks at the places that paths reach
pub record IsKnown (b : Body) (failing : List ℕ) (place : ℕ) (k : Before) : Type 0 where
  pub marks : List Bool
  pub are : AreReached b marks
  pub before : IsBefore b failing marks place k
