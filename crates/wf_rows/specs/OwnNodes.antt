-- Which nodes of its own a place has (this project's own), and that no row is left out for want of its target.
use Rattle.std.specs.Prelude.{ℕ, Bool, true, false, List, [], ◌∷◌, ◌++◌, length, Option, Some, None, if◌then◌else◌}
use Rattle.wf_data.specs.declared.instr.Case.{Case}
use Rattle.wf_operation.specs.declared.next.Left.{Left}
use Rattle.wf_operation.specs.declared.next.Next.{Next}
use Rattle.wf_operation.specs.declared.next.Next.TheVariants.{Falls, Jumps, Branches, Switches}
use Rattle.wf_operation.specs.declared.next.Next.TheVariants as next
use Rattle.wf_operation.specs.Nexts.{left_of}
use Rattle.wf_operation.specs.declared.slot.SlotKind.{SlotKind}
use Rattle.wf_operation.specs.declared.slot.SlotKind.TheVariants.{Unused}
use Rattle.wf_operation.specs.Slots.{same_kind}
use Rattle.wf_rows.specs.declared.action.Action.{Action}
use Rattle.wf_rows.specs.declared.action.Action.TheVariants.{Moves, Computes, Literal, Field, Array, Makes, Tests, CallsStatic, Calls, Returns, Throws, Monitors}
use Rattle.wf_rows.specs.declared.action.ArrayUse.{ArrayUse}
use Rattle.wf_rows.specs.declared.action.ArrayUse.TheVariants as array
use Rattle.wf_rows.specs.declared.action.FieldUse.{FieldUse}
use Rattle.wf_rows.specs.declared.action.FieldUse.TheVariants.{GetStatic, PutStatic, Get, Put}
use Rattle.wf_rows.specs.declared.joins.HandlerEntry.{HandlerEntry}
use Rattle.wf_rows.specs.declared.node.Own.{Own}
use Rattle.wf_rows.specs.declared.node.Own.TheVariants.{Result, Refined, Links, Block, Merged, Caught}
use Rattle.wf_rows.specs.Each.{each_from}

abbrev pub field_gives : FieldUse → Bool
field_gives (GetStatic f) = true
field_gives (PutStatic f kind) = false
field_gives (Get f) = true
field_gives (Put f kind) = false

abbrev pub array_gives : ArrayUse → Bool
array_gives array.Length = true
array_gives array.LoadInt = true
array_gives array.LoadLong = true
array_gives array.LoadRef = true
array_gives array.StoreNumber = false
array_gives array.StoreRef = false

-- whether there is a node of what an instruction gives: each that gives a value has one, and each call
abbrev pub gives : Action → Bool
gives Moves = false
gives (Computes c) = true
gives (Literal l) = true
gives (Field f) = field_gives f
gives (Array a) = array_gives a
gives (Makes m) = true
gives (Tests t) = true
gives (CallsStatic c) = true
gives (Calls c) = true
gives (Returns kind) = false
gives Throws = false
gives Monitors = false

abbrev pub result_nodes : ℕ → Bool → List Own
result_nodes pc b = if b then Result pc ∷ [] else []

-- a call whose method is selected has its candidates
abbrev pub links_nodes : ℕ → Action → List Own
links_nodes pc (Calls c) = Links pc ∷ []
links_nodes pc other = []

-- a branch has what is left of an operand along an edge
abbrev pub left_nodes : ℕ → ℕ → ℕ → Option Left → List Own
left_nodes pc edge operand None = []
left_nodes pc edge operand (Some left) = Refined pc edge operand ∷ []

abbrev pub along_nodes : ℕ → Next → ℕ → List Own
along_nodes pc n edge = left_nodes pc edge 1 (left_of n edge 1) ++ left_nodes pc edge 2 (left_of n edge 2)

abbrev pub case_nodes : ℕ → Next → ℕ → Case → List Own
case_nodes pc n edge case = along_nodes pc n edge

abbrev pub refined_nodes : ℕ → Next → List Own
refined_nodes pc (Branches test to) = along_nodes pc (Branches test to) 0 ++ along_nodes pc (Branches test to) 1
refined_nodes pc (Switches cases default) = each_from (case_nodes pc (Switches cases default)) 0 cases ++ along_nodes pc (Switches cases default) (length cases)
refined_nodes pc Falls = []
refined_nodes pc (Jumps to) = []
refined_nodes pc (next.Returns kind) = []
refined_nodes pc next.Throws = []

-- The nodes of a reached place, but those of a block that starts there.
abbrev pub own_at : ℕ → Next → Action → List Own
own_at pc n a = result_nodes pc (gives a) ++ links_nodes pc a ++ refined_nodes pc n

-- a slot of a block, where it is used
abbrev pub merged_nodes : ℕ → ℕ → SlotKind → List Own
merged_nodes pc slot kind = if same_kind kind Unused then [] else Merged pc slot ∷ []

-- The nodes of a block that starts at a reached place, by the kinds of the slots there: of a block that a handler leads to,
-- or into which there is another number of edges than one.
abbrev pub block_nodes : ℕ → List SlotKind → List Own
block_nodes pc kinds = Block pc ∷ each_from (merged_nodes pc) 0 kinds

-- the node of an entry of the exception table whose handler is reached
abbrev pub caught_nodes : HandlerEntry → List Own
caught_nodes h = Caught h.entry ∷ []
