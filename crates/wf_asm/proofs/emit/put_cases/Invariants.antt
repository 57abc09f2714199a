use Rattle.std.proofs.Common.{◌≡◌, drop}
use Rattle.wf_asm.specs.Building.{onto, lookup_bytes}
use Rattle.wf_asm.proofs.emit.put_cases.Given as goal

abbrev pub invariant-loop-case : goal.invariant-loop-case
invariant-loop-case l = onto l.out (lookup_bytes l.labels l.at (drop l.case-index l.cases)) ≡ onto l.initial.out (lookup_bytes l.labels l.at l.cases)
