use Rattle.std.proofs.Common.{◌≡◌, Bool, List, ◌++◌, drop}
use Rattle.wf_blocks.specs.Answers.{AreReached}
use Rattle.wf_rows.specs.Each.{each_from}
use Rattle.wf_graph.specs.BodyNodes.{place_nodes}
use Rattle.wf_graph.proofs.own.push_places.Given as goal

abbrev pub invariant-loop-place : goal.invariant-loop-place
invariant-loop-place l =
    (marks : List Bool) → AreReached l.blocks marks
    → l.own ++ each_from (place_nodes marks l.acts) l.place (drop l.place l.step-items) ≡ l.fn.own ++ each_from (place_nodes marks l.acts) 0 l.step-items
