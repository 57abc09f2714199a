use Rattle.std.proofs.Common.{◌≡◌, ℕ, ◌+◌, ◌≤◌, List, length}
use Rattle.wf_ssa.specs.Keeping.{nones, AreFails, AreSound}
use Rattle.wf_ssa.proofs.fill.leave_noted.Given as goal

abbrev pub invariant-loop-place : goal.invariant-loop-place
invariant-loop-place l = record {
  count : length l.known ≡ length l.blocks.steps;
  sound : (failing : List ℕ) → AreFails failing l.fails → AreSound l.blocks failing l.initial.known → AreSound l.blocks failing l.known;
  fewer : nones l.known ≤ nones l.initial.known;
}

abbrev pub decreases-loop-place : goal.decreases-loop-place
decreases-loop-place l = nones l.known + length l.noted.items
