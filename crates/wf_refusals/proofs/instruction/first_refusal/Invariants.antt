use Rattle.std.proofs.Common.{◌≡◌, drop}
use Rattle.wf_refusals.specs.Refusals.{first_refusal}
use Rattle.wf_refusals.proofs.instruction.first_refusal.Given as goal

abbrev pub invariant-loop-placed : goal.invariant-loop-placed
invariant-loop-placed l = first_refusal l.pool (drop l.placed-index l.code) ≡ first_refusal l.pool l.code
