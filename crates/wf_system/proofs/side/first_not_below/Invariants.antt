use Rattle.std.proofs.Common.{◌-◌}
use Rattle.wf_system.proofs.SideLaws.{Narrows}
use Rattle.wf_system.proofs.side.first_not_below.Given as goal

abbrev pub invariant-loop-low : goal.invariant-loop-low
invariant-loop-low l = Narrows l.table l.t l.low l.high

abbrev pub decreases-loop-low : goal.decreases-loop-low
decreases-loop-low l = l.high - l.low
