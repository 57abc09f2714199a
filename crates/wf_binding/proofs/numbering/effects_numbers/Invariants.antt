use Rattle.std.proofs.Common.{take}
use Rattle.wf_binding.specs.Numbering.{AreNumbered, NumbersLine, NumbersBlock, NumbersLiteral}
use Rattle.wf_binding.proofs.numbering.effects_numbers.Given as goal

abbrev pub invariant-loop-line : goal.invariant-loop-line
invariant-loop-line l = AreNumbered (NumbersLine l.types l.ret) (take l.line-index l.effects) l.numbers.items
