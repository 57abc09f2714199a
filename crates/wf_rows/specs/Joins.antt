-- Rows of edges into blocks, and of handlers (after SkipFlow, CGO 2025).
use Rattle.std.specs.Prelude.{ℕ, List, [], ◌∷◌, take, Option, Some, None}
use Rattle.wf_base.specs.declared.ids.TargetId.{TargetId}
use Rattle.wf_system.specs.declared.inequality.Guard.{Guard}
use Rattle.wf_system.specs.declared.inequality.Guard.TheVariants.{NonEmpty}
use Rattle.wf_system.specs.declared.inequality.ValueOp.TheVariants.{Token, Copy, AllUnder}
use Rattle.wf_system.specs.declared.inequality.Inequality.{Inequality}
use Rattle.wf_rows.specs.declared.joins.HandlerEntry.{HandlerEntry}
use Rattle.wf_rows.specs.declared.node.Node.{Node}
use Rattle.wf_rows.specs.declared.node.Node.TheVariants.{In}
use Rattle.wf_rows.specs.declared.node.Own.{Own}
use Rattle.wf_rows.specs.declared.node.Own.TheVariants as own
use Rattle.wf_rows.specs.Before.{Before, row, row_under}
use Rattle.wf_rows.specs.Each.{each_from}

-- what a slot holds flows into that slot of the block at a place
abbrev pub merged_rows : Guard (Node Own) → ℕ → ℕ → Node Own → List (Inequality (Node Own))
merged_rows guard to slot flow = row_under guard (In (own.Merged to slot)) (Copy flow) ∷ []

-- an edge into a block: the block is reached, and gets what the slots hold
abbrev pub edge_rows : Before → List (Inequality (Node Own))
edge_rows edge = row edge (In (own.Block edge.pc)) Token ∷ each_from (merged_rows (NonEmpty edge.predicate) edge.pc) 0 edge.slots

-- A handler entry over a place: it catches each made type under its class (own rule), and its block gets the locals. An
-- entry whose class isn't found catches nothing (own rule).
abbrev pub covered_under : Before → HandlerEntry → Option TargetId → List (Inequality (Node Own))
covered_under k h (Some u) = row k (In (own.Caught h.entry)) (AllUnder u) ∷ each_from (merged_rows (NonEmpty k.predicate) h.target) 0 (take h.locals k.slots)
covered_under k h None = []

abbrev pub covered_rows : Before → HandlerEntry → List (Inequality (Node Own))
covered_rows k h = covered_under k h h.catches

-- where an entry catches something: its block is reached, and the one slot of the stack there holds it (JVMS 2.10)
abbrev pub caught_under : HandlerEntry → Option TargetId → List (Inequality (Node Own))
caught_under h (Some u) =
    row_under (NonEmpty (In (own.Caught h.entry))) (In (own.Block h.target)) Token
    ∷ row_under (NonEmpty (In (own.Caught h.entry))) (In (own.Merged h.target h.locals)) (Copy (In (own.Caught h.entry)))
    ∷ []
caught_under h None = []

abbrev pub caught_rows : HandlerEntry → List (Inequality (Node Own))
caught_rows h = caught_under h h.catches
