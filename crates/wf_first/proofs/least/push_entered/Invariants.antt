use Rattle.std.proofs.Common.{◌≡◌, ◌++◌, drop}
use Rattle.wf_first.specs.Solution.{by_name, entered_among}
use Rattle.wf_first.proofs.least.push_entered.Given as goal

abbrev pub invariant-loop-method : goal.invariant-loop-method
invariant-loop-method l =
    l.entered.items ++ entered_among (by_name l.nodes l.values) l.class (drop l.method-index l.method-items) ≡ l.fn.entered.items ++ entered_among (by_name l.nodes l.values) l.class l.class.methods
