use Rattle.std.proofs.Common.{◌≡◌, ◌++◌, drop}
use Rattle.wf_asm.proofs.build.interfaces_of.Given as goal

abbrev pub invariant-loop-name : goal.invariant-loop-name
invariant-loop-name l = l.interfaces.items ++ drop l.name-index l.names ≡ l.names
