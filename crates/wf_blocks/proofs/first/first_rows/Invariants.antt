use Rattle.std.proofs.Common.{◌≡◌, ◌-◌, [], ◌∷◌, length, Some, None}
use Rattle.wf_blocks.specs.Bodies.{graph_of}
use Rattle.wf_blocks.specs.Methods.{filled}
use Rattle.wf_blocks.specs.Rows.{entry_row}
use Rattle.wf_blocks.proofs.first.first_rows.Given as goal

abbrev pub invariant-loop-rows : goal.invariant-loop-rows
invariant-loop-rows l = filled l.rows.items None (length l.body.steps) ≡ filled (Some (entry_row (graph_of l.body)) ∷ []) None (length l.body.steps)

abbrev pub decreases-loop-rows : goal.decreases-loop-rows
decreases-loop-rows l = length l.body.steps - length l.rows.items
