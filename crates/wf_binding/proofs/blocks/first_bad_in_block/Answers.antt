use Rattle.std.proofs.Common.{◌≡◌, ◌∙◌, ◌<◌, ap, sym, subst, length, arith}
use Rattle.wf_binding.specs.First.{IsFirst, earlier_of}
use Rattle.wf_binding.specs.Validity.{IsBadInBlock, method_word}
use Rattle.wf_binding.proofs.BlockLines.{block_first, word_there}
use Rattle.wf_binding.proofs.blocks.first_bad_in_block.Goals as goal

pub returns-in_ok-inside-in-Some-clause-first : goal.returns-in_ok-inside-in-Some-clause-first
returns-in_ok-inside-in-Some-clause-first c earlier marked =
    let classes = c.args.classes.now in
    let b = c.args.block.now in
    let m = c.in-Some.method in
    let within : m.id.0 < length c.args.marks.now = omega (arith, c.in-Some.ensures.within, marked.count) in
    let word =
    word_there classes earlier b m.id.0 m.flags (sym c.in-Some.ensures.number) (sym c.in-Some.ensures.flags)
    ∙ ap (method_word b.replace m.flags) (sym (c.mark-second.ensures.before ∙ marked.each m.id.0 within)) ∙ sym c.method_word-word.ensures in
    subst (IsFirst (IsBadInBlock classes earlier b)) (sym (c.earlier_of.ensures ∙ ap (λ x. earlier_of x c.in_ok-inside-in-Some.inside) c.at_line.ensures))
    (block_first classes earlier b c.method_word-word.result c.in_ok-inside-in-Some.inside word c.in_ok-inside-in-Some.ensures)
