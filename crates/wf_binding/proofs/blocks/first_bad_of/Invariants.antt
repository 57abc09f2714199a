use Rattle.std.proofs.Common.{take}
use Rattle.wf_binding.specs.First.{IsFirst, Upto}
use Rattle.wf_binding.specs.Marks.{AreMarked}
use Rattle.wf_binding.specs.Validity.{IsBadBlock}
use Rattle.wf_binding.proofs.blocks.first_bad_of.Given as goal

abbrev pub invariant-loop-block : goal.invariant-loop-block
invariant-loop-block l = record {
  marked : AreMarked l.classes (take l.block-index l.blocks) l.marks;
  first : IsFirst (Upto (IsBadBlock l.classes l.blocks) l.block-index) l.found;
}
