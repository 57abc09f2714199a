use Rattle.std.proofs.Common.{ℕ, ◌<◌}
use Rattle.wf_system.specs.Shapes.{shape_at}
use Rattle.wf_system.specs.Shaped.{HasItsWords}
use Rattle.wf_system.proofs.shaped.words_fit.Given as goal

abbrev pub invariant-loop-n : goal.invariant-loop-n
invariant-loop-n l = (k : ℕ) → k < l.n → HasItsWords (shape_at l.shape k).kind (shape_at l.shape k).words
