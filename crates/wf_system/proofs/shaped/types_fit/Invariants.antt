use Rattle.std.proofs.Common.{ℕ, ◌<◌}
use Rattle.wf_system.specs.Shapes.{shape_at}
use Rattle.wf_system.specs.Shaped.{FitsTypes}
use Rattle.wf_system.proofs.shaped.types_fit.Given as goal

abbrev pub invariant-loop-n : goal.invariant-loop-n
invariant-loop-n l = (k : ℕ) → k < l.n → FitsTypes (shape_at l.shape k).kind l.inst.0 k l.row (shape_at l.shape k).words
