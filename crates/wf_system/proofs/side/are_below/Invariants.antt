use Rattle.std.proofs.Common.{ℕ, ◌<◌, slice_index}
use Rattle.wf_system.proofs.side.are_below.Given as goal

abbrev pub invariant-loop-number : goal.invariant-loop-number
invariant-loop-number l = (i : ℕ) → i < l.number-index → slice_index l.numbers i < l.count
