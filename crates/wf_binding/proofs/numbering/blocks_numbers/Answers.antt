use Rattle.std.proofs.Common.{◌+◌, sym, subst, take, refl, length}
use Rattle.std.proofs.lemmas.Option.{slice_get_read}
use Rattle.wf_binding.specs.Numbering.{AreNumbered, NumbersLine, NumbersBlock, NumbersLiteral}
use Rattle.wf_binding.proofs.Numbered.{numbered_on}
use Rattle.wf_binding.proofs.numbering.blocks_numbers.Goals as goal

pub loop-block-preserved : goal.loop-block-preserved
loop-block-preserved c =
    let i = c.loop-block.block-index in
    let xs = c.args.blocks.now in
    subst (AreNumbered (NumbersBlock c.args.types.now) (take (i + 1) xs)) (sym c.in_ok-push.ensures.items)
    (numbered_on (NumbersBlock c.args.types.now) xs c.loop-block.numbers.items i c.block-item.result c.in_ok-block_numbers.field-0 c.loop-block-test.true c.block-item.is c.loop-block.invariant c.in_ok-block_numbers.ensures)
