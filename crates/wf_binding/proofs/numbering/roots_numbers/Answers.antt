use Rattle.std.proofs.Common.{◌+◌, sym, subst, take, refl, length}
use Rattle.std.proofs.lemmas.Option.{slice_get_read}
use Rattle.wf_binding.specs.Numbering.{AreNumbered, NumbersRootLine}
use Rattle.wf_binding.proofs.Numbered.{numbered_on}
use Rattle.wf_binding.proofs.numbering.roots_numbers.Goals as goal

pub loop-line-preserved : goal.loop-line-preserved
loop-line-preserved c =
    let i = c.loop-line.line-index in
    let xs = c.args.lines.now in
    subst (AreNumbered (NumbersRootLine c.args.types.now) (take (i + 1) xs)) (sym c.in_ok-push.ensures.items)
    (numbered_on (NumbersRootLine c.args.types.now) xs c.loop-line.numbers.items i c.line-item.result c.root_numbers.result c.loop-line-test.true c.line-item.is c.loop-line.invariant c.root_numbers.ensures)

pub root_numbers-requires : goal.root_numbers-requires
root_numbers-requires c =
    let xs = c.args.lines.now in
    c.requires.each c.loop-line.line-index c.line-item.result (slice_get_read xs (length xs) c.loop-line.line-index c.line-item.result refl c.loop-line-test.true c.line-item.is)
