use Rattle.std.proofs.Common.{◌≡◌, ◌<◌, length}
use Rattle.wf_ssa.specs.Keeping.{answered}
use Rattle.wf_ssa.proofs.walk.is_answered.Given as goal

abbrev pub invariant-loop-at : goal.invariant-loop-at
invariant-loop-at l = record {
  inside : l.at < length l.blocks.steps;
  same : answered l.blocks l.meets l.known l.fn.place ≡ answered l.blocks l.meets l.known l.at;
}

abbrev pub decreases-loop-at : goal.decreases-loop-at
decreases-loop-at l = l.at
