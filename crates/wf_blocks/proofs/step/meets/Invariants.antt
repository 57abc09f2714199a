use Rattle.wf_blocks.specs.Walking.{IsMet}
use Rattle.wf_blocks.proofs.step.meets.Given as goal

abbrev pub invariant-loop-i : goal.invariant-loop-i
invariant-loop-i l = IsMet l.effect l.row l.i
