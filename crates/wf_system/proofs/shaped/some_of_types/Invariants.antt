use Rattle.std.proofs.Common.{ℕ, ◌<◌}
use Rattle.wf_system.specs.Shapes.{shape_at}
use Rattle.wf_system.specs.Fits.{IsOfTypes}
use Rattle.wf_system.proofs.shaped.some_of_types.Given as goal

abbrev pub invariant-loop-n : goal.invariant-loop-n
invariant-loop-n l = (k : ℕ) → k < l.n → IsOfTypes (shape_at l.shape k).kind → ⊥
