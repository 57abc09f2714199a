use Rattle.std.proofs.Common.{◌≡◌, ℕ, ◌+◌, ◌<◌, ◌≤◌, List, length, true, false, Some}
use Rattle.std.specs.Prelude.{slice_get}
use Rattle.wf_blocks.specs.Bodies.{graph_of, targets_at}
use Rattle.wf_blocks.specs.Graphs.{Reached}
use Rattle.wf_ssa.specs.Keeping.{answered, nones, AreFails, AreSound, IsFilled}
use Rattle.wf_ssa.proofs.fill.leave.Given as goal

abbrev pub invariant-loop-edge : goal.invariant-loop-edge
invariant-loop-edge l = record {
  count : length l.known ≡ length l.blocks.steps;
  sound : (failing : List ℕ) → AreFails failing l.fails → AreSound l.blocks failing l.initial.known → AreSound l.blocks failing l.known;
  less : l.more ≡ true → nones l.known < nones l.initial.known;
  room : nones l.known + length l.noted.items ≤ nones l.initial.known + length l.initial.noted.items;
  same : l.more ≡ false → l.known ≡ l.initial.known;
  left : (edge to : ℕ) → l.more ≡ false → edge < l.edge → Reached (graph_of l.blocks) l.fn.place → answered l.blocks l.meets l.initial.known l.fn.place ≡ true
      → slice_get (targets_at l.blocks l.fn.place) edge ≡ Some to → IsFilled l.blocks l.meets l.initial.known to;
}
