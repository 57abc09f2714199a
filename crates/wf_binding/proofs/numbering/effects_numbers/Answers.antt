use Rattle.std.proofs.Common.{◌+◌, sym, subst, take, refl, length}
use Rattle.std.proofs.lemmas.Option.{slice_get_read}
use Rattle.wf_binding.specs.Numbering.{AreNumbered, NumbersLine, NumbersBlock, NumbersLiteral}
use Rattle.wf_binding.proofs.Numbered.{numbered_on}
use Rattle.wf_binding.proofs.numbering.effects_numbers.Goals as goal

pub loop-line-preserved : goal.loop-line-preserved
loop-line-preserved c =
    let i = c.loop-line.line-index in
    let xs = c.args.effects.now in
    subst (AreNumbered (NumbersLine c.args.types.now c.args.ret.now) (take (i + 1) xs)) (sym c.in_ok-push.ensures.items)
    (numbered_on (NumbersLine c.args.types.now c.args.ret.now) xs c.loop-line.numbers.items i c.line-item.result c.effect_numbers.result c.loop-line-test.true c.line-item.is c.loop-line.invariant c.effect_numbers.ensures)
