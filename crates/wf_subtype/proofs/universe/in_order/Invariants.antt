use Rattle.std.proofs.Common.{◌≡◌, ◌++◌}
use Rattle.wf_subtype.proofs.universe.in_order.Given as goal

abbrev pub invariant-loop-name : goal.invariant-loop-name
invariant-loop-name l = l.names.items ++ l.name-iterator ≡ l.initial.name-iterator
