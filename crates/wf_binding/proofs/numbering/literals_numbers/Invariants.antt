use Rattle.std.proofs.Common.{take}
use Rattle.wf_binding.specs.Numbering.{AreNumbered, NumbersLine, NumbersBlock, NumbersLiteral}
use Rattle.wf_binding.proofs.numbering.literals_numbers.Given as goal

abbrev pub invariant-loop-literal : goal.invariant-loop-literal
invariant-loop-literal l = AreNumbered (NumbersLiteral l.types) (take l.literal-index l.literals) l.numbers.items
