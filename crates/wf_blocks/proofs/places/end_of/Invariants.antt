use Rattle.std.proofs.Common.{ℕ, ◌<◌, get_or}
use Rattle.wf_blocks.proofs.places.end_of.Given as goal

abbrev pub invariant-loop-pc : goal.invariant-loop-pc
invariant-loop-pc l = (k : ℕ) → k < l.pc-index → get_or l.pcs k 0 < l.end
