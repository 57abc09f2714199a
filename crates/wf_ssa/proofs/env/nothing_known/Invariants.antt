use Rattle.std.proofs.Common.{◌≡◌, ℕ, ◌-◌, ◌≤◌, length, None}
use Rattle.wf_ssa.specs.Keeping.{row_at}
use Rattle.wf_ssa.proofs.env.nothing_known.Given as goal

abbrev pub invariant-loop-known : goal.invariant-loop-known
invariant-loop-known l = record {
  few : length l.known.items ≤ l.count;
  none : (place : ℕ) → row_at l.known.items place ≡ None;
}

abbrev pub decreases-loop-known : goal.decreases-loop-known
decreases-loop-known l = l.count - length l.known.items
