use Rattle.std.proofs.Common.{◌≡◌, ℕ, ◌+◌, ◌≤◌, List, length}
use Rattle.wf_ssa.specs.Keeping.{nones, AreFails, AreSound}
use Rattle.wf_ssa.proofs.fill.leave_block.Given as goal

abbrev pub invariant-loop-at : goal.invariant-loop-at
invariant-loop-at l = record {
  count : length l.known ≡ length l.blocks.steps;
  sound : (failing : List ℕ) → AreFails failing l.fails → AreSound l.blocks failing l.initial.known → AreSound l.blocks failing l.known;
  fewer : nones l.known ≤ nones l.initial.known;
  room : nones l.known + length l.noted.items ≤ nones l.initial.known + length l.initial.noted.items;
}
