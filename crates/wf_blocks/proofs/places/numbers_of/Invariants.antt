use Rattle.std.proofs.Common.{◌≡◌, ℕ, ◌<◌, ◌≤◌, length, get_or, drop, None}
use Rattle.wf_blocks.specs.Methods.{number_from}
use Rattle.wf_blocks.proofs.places.numbers_of.Given as goal

abbrev pub invariant-loop-place : goal.invariant-loop-place
invariant-loop-place l = record {
  low : l.place ≤ length l.pcs;
  room : (k : ℕ) → k < length l.pcs → get_or l.pcs k 0 < length l.numbers.items;
  each : (pc : ℕ) → get_or l.numbers.items pc None ≡ number_from l.place (drop l.place l.pcs) pc;
}

abbrev pub decreases-loop-place : goal.decreases-loop-place
decreases-loop-place l = l.place
