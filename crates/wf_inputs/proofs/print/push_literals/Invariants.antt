use Rattle.std.proofs.Common.{◌≡◌, ◌++◌, take}
use Rattle.std.specs.List.{flat_map}
use Rattle.wf_inputs.specs.Printing.{literal_text}
use Rattle.wf_inputs.proofs.print.push_literals.Given as goal

abbrev pub invariant-loop-literal : goal.invariant-loop-literal
invariant-loop-literal l = l.out ≡ l.fn.out ++ flat_map literal_text (take l.literal-index l.literals)
