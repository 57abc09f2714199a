use Rattle.std.proofs.Common.{◌≡◌, ◌++◌, drop}
use Rattle.wf_first.specs.Solution.{by_name, entered_in}
use Rattle.wf_first.proofs.least.entered_in.Given as goal

abbrev pub invariant-loop-class : goal.invariant-loop-class
invariant-loop-class l = l.entered.items ++ entered_in (by_name l.nodes l.values) (drop l.class-index l.classes) ≡ entered_in (by_name l.nodes l.values) l.classes
