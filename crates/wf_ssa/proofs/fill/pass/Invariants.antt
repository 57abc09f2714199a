use Rattle.std.proofs.Common.{◌≡◌, ℕ, ◌<◌, List, length, true, false}
use Rattle.wf_ssa.specs.Keeping.{nones, AreFails, AreSound, IsLeft}
use Rattle.wf_ssa.proofs.fill.pass.Given as goal

abbrev pub invariant-loop-place : goal.invariant-loop-place
invariant-loop-place l = record {
  count : length l.known ≡ length l.blocks.steps;
  sound : (failing : List ℕ) → AreFails failing l.fails → AreSound l.blocks failing l.initial.known → AreSound l.blocks failing l.known;
  less : l.more ≡ true → nones l.known < nones l.initial.known;
  same : l.more ≡ false → l.known ≡ l.initial.known;
  left : (place : ℕ) → l.more ≡ false → place < l.place → IsLeft l.blocks l.meets l.initial.known place;
}
