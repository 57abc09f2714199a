use Rattle.std.proofs.Common.{◌≡◌, ℕ, Bool, List, ◌++◌, drop}
use Rattle.wf_operation.specs.declared.slot.SlotKind.{SlotKind}
use Rattle.wf_blocks.specs.Answers.{AreReached}
use Rattle.wf_rows.specs.Each.{each_from}
use Rattle.wf_graph.specs.Bodies.{AreKinds}
use Rattle.wf_graph.specs.BodyNodes.{meeting_nodes}
use Rattle.wf_graph.proofs.own.push_meeting_places.Given as goal

abbrev pub invariant-loop-place : goal.invariant-loop-place
invariant-loop-place l =
    (marks : List Bool) (kinds : ℕ → List SlotKind) → AreReached l.blocks marks → AreKinds l.blocks marks kinds
    → l.own ++ each_from (meeting_nodes l.blocks marks kinds) l.place (drop l.place l.step-items) ≡ l.fn.own ++ each_from (meeting_nodes l.blocks marks kinds) 0 l.step-items
