use Rattle.std.proofs.Common.{take}
use Rattle.wf_binding.specs.Numbering.{AreNumbered, NumbersRootLine}
use Rattle.wf_binding.proofs.numbering.roots_numbers.Given as goal

abbrev pub invariant-loop-line : goal.invariant-loop-line
invariant-loop-line l = AreNumbered (NumbersRootLine l.types) (take l.line-index l.lines) l.numbers.items
