use Rattle.std.proofs.Common.{◌-◌, ◌*◌, length}
use Rattle.wf_first.proofs.PassLaws.{Laws, height, Between}
use Rattle.wf_first.proofs.solver.solve.Given as goal

-- the laws stand here too, so that they are put together only once
abbrev pub invariant-loop : goal.invariant-loop
invariant-loop l = record {
  laws : Laws;
  between : Between l.system l.fn.values l.values;
}

abbrev pub decreases-loop : goal.decreases-loop
decreases-loop l = 2 * length l.values - height l.values
