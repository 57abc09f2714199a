use Rattle.std.proofs.Common.{◌≡◌, ◌+◌, ◌++◌, drop}
use Rattle.wf_blocks.specs.Methods.{numbers_from}
use Rattle.wf_blocks.proofs.method.numbers_from.Given as goal

abbrev pub invariant-loop-i : goal.invariant-loop-i
invariant-loop-i l = l.numbers.items ++ numbers_from (l.first + l.i) (drop l.i l.params) ≡ l.fn.front.items ++ numbers_from l.first l.params
