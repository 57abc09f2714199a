use Rattle.std.proofs.Common.{◌≡◌, ℕ, ◌+◌, ◌<◌, List, length, false}
use Rattle.std.specs.Prelude.{if◌then◌else◌}
use Rattle.wf_ssa.specs.Keeping.{nones, AreFails, AreSound, IsLeft}
use Rattle.wf_ssa.proofs.env.known_of.Given as goal

abbrev pub invariant-loop-more : goal.invariant-loop-more
invariant-loop-more l = record {
  count : length l.known.items ≡ length l.blocks.steps;
  sound : (failing : List ℕ) → AreFails failing l.fails → AreSound l.blocks failing l.known.items;
  left : (place : ℕ) → l.more ≡ false → place < length l.blocks.steps → IsLeft l.blocks l.meets l.known.items place;
}

abbrev pub decreases-loop-more : goal.decreases-loop-more
decreases-loop-more l = nones l.known.items + (if l.more then 1 else 0)
