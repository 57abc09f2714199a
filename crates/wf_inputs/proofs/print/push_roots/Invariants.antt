use Rattle.std.proofs.Common.{◌≡◌, ◌++◌, take}
use Rattle.std.specs.List.{flat_map}
use Rattle.wf_inputs.specs.Printing.{root_line}
use Rattle.wf_inputs.proofs.print.push_roots.Given as goal

abbrev pub invariant-loop-root : goal.invariant-loop-root
invariant-loop-root l = l.out ≡ l.fn.out ++ flat_map root_line (take l.root-index l.roots)
