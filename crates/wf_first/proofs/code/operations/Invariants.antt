use Rattle.std.proofs.Common.{length, drop, ◌-◌, ◌≡◌}
use Rattle.wf_first.specs.Code.{operations_from}
use Rattle.wf_first.proofs.CodeLaws.{with_found}
use Rattle.wf_first.proofs.code.operations.Given as goal

-- what is found so far, and what is still to come
abbrev pub invariant-loop-pc : goal.invariant-loop-pc
invariant-loop-pc l = with_found l.found.items (operations_from 0 l.pc (drop l.pc l.code)) ≡ operations_from 0 0 l.code

abbrev pub decreases-loop-pc : goal.decreases-loop-pc
decreases-loop-pc l = length l.code - l.pc
