use Rattle.std.proofs.Common.{◌≡◌, drop}
use Rattle.wf_asm.specs.Building.{onto, table_bytes}
use Rattle.wf_asm.proofs.emit.put_targets.Given as goal

abbrev pub invariant-loop-target : goal.invariant-loop-target
invariant-loop-target l = onto l.out (table_bytes l.labels l.at (drop l.target-index l.targets)) ≡ onto l.initial.out (table_bytes l.labels l.at l.targets)
