use Rattle.std.proofs.Common.{◌≤◌, length}
use Rattle.wf_classes.specs.Above.{IsSwept}
use Rattle.wf_classes.proofs.above.heights_above.Given as goal

abbrev pub invariant-loop-h : goal.invariant-loop-h
invariant-loop-h l = record {
  swept : IsSwept l.classes l.ranks.heights.now l.fn.c.0 l.bound l.bits;
  within : l.bound ≤ length l.classes;
}

abbrev pub decreases-loop-h : goal.decreases-loop-h
decreases-loop-h l = l.bound
