use Rattle.std.proofs.Common.{take}
use Rattle.wf_binding.specs.Numbering.{AreNumbered, NumbersLine, NumbersBlock, NumbersLiteral}
use Rattle.wf_binding.proofs.numbering.blocks_numbers.Given as goal

abbrev pub invariant-loop-block : goal.invariant-loop-block
invariant-loop-block l = AreNumbered (NumbersBlock l.types) (take l.block-index l.blocks) l.numbers.items
