use Rattle.std.proofs.Common.{◌≡◌, ℕ, length, Some}
use Rattle.std.specs.Prelude.{slice_get}
use Rattle.wf_operation.specs.declared.slot.SlotKind.{SlotKind}
use Rattle.wf_blocks.specs.Bodies.{graph_of}
use Rattle.wf_blocks.specs.Graphs.{Reached, KindIs}
use Rattle.wf_graph.proofs.own.kinds_at.Given as goal

abbrev pub invariant-loop-slot : goal.invariant-loop-slot
invariant-loop-slot l = record {
  count : length l.kinds.items ≡ l.slot;
  each : Reached (graph_of l.blocks) l.place → (slot : ℕ) (kind : SlotKind) → slice_get l.kinds.items slot ≡ Some kind → KindIs (graph_of l.blocks) l.place slot kind;
}
