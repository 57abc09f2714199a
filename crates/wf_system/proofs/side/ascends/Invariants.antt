use Rattle.wf_system.proofs.SideLaws.{AscendsTo}
use Rattle.wf_system.proofs.side.ascends.Given as goal

abbrev pub invariant-loop-i : goal.invariant-loop-i
invariant-loop-i l = AscendsTo l.table l.i
