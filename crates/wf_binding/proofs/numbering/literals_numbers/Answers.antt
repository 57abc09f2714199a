use Rattle.std.proofs.Common.{◌+◌, sym, subst, take, refl, length}
use Rattle.std.proofs.lemmas.Option.{slice_get_read}
use Rattle.wf_binding.specs.Numbering.{AreNumbered, NumbersLine, NumbersBlock, NumbersLiteral}
use Rattle.wf_binding.proofs.Numbered.{numbered_on}
use Rattle.wf_binding.proofs.numbering.literals_numbers.Goals as goal

pub loop-literal-preserved : goal.loop-literal-preserved
loop-literal-preserved c =
    let i = c.loop-literal.literal-index in
    let xs = c.args.literals.now in
    subst (AreNumbered (NumbersLiteral c.args.types.now) (take (i + 1) xs)) (sym c.in_ok-push.ensures.items)
    (numbered_on (NumbersLiteral c.args.types.now) xs c.loop-literal.numbers.items i c.literal-item.result c.literal_numbers.result c.loop-literal-test.true c.literal-item.is c.loop-literal.invariant c.literal_numbers.ensures)

pub literal_numbers-requires : goal.literal_numbers-requires
literal_numbers-requires c =
    let xs = c.args.literals.now in
    c.requires.each c.loop-literal.literal-index c.literal-item.result (slice_get_read xs (length xs) c.loop-literal.literal-index c.literal-item.result refl c.loop-literal-test.true c.literal-item.is)
