use Rattle.std.proofs.Common.{◌≡◌, ◌++◌, drop}
use Rattle.wf_blocks.specs.Methods.{steps_from}
use Rattle.wf_blocks.proofs.method.steps_of.Given as goal

abbrev pub invariant-loop-place : goal.invariant-loop-place
invariant-loop-place l = l.steps.items ++ steps_from l.pool l.places l.place (drop l.place l.code) ≡ steps_from l.pool l.places 0 l.code
