use Rattle.std.proofs.Common.{◌*◌}
use Rattle.wf_classes.proofs.HeightSets.{HasNone}
use Rattle.wf_classes.proofs.heights.last_among.Given as goal

abbrev pub invariant-loop-k : goal.invariant-loop-k
invariant-loop-k l = HasNone l.bits (64 * l.k) (64 * l.fn.words)
