use Rattle.std.proofs.Common.{◌≡◌, ℕ, ◌+◌, ◌<◌, length}
use Rattle.wf_blocks.specs.Answers.{IsCount, count_at}
use Rattle.wf_blocks.proofs.counts.counts_of.Given as goal

abbrev pub invariant-loop-place : goal.invariant-loop-place
invariant-loop-place l = record {
  count : length l.counts.items ≡ l.place;
  each : (p : ℕ) → p < l.place → IsCount l.body l.rows p (count_at l.counts.items p);
  before : (p : ℕ) → p + 1 ≡ l.place → IsCount l.body l.rows p l.last;
}
