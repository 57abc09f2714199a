use Rattle.std.proofs.Common.{◌+◌, ◌∙◌, ap, sym, subst, refl, length, arith}
use Rattle.std.proofs.lemmas.Option.{slice_get_read}
use Rattle.wf_binding.specs.Validity.{IsBadLiteral}
use Rattle.wf_binding.specs.First.{IsFirst, Upto, at_line, earlier_of}
use Rattle.wf_binding.proofs.LiteralLines.{more_literals, all_literals}
use Rattle.wf_binding.proofs.literals.first_bad_literal.Goals as goal

pub loop-literal-preserved : goal.loop-literal-preserved
loop-literal-preserved c =
    let h = c.loop-literal in
    let e = c.literal-item.result in
    let literals = c.args.literals.now in
    let there = slice_get_read literals (length literals) h.literal-index e refl c.loop-literal-test.true c.literal-item.is in
    subst (IsFirst (Upto (IsBadLiteral c.args.classes.now literals) (h.literal-index + 1)))
    (sym (c.earlier_of-found.ensures ∙ ap (earlier_of h.found) (c.at_line.ensures ∙ ap (at_line e.line) c.literal_word-word.ensures)))
    (more_literals c.args.classes.now literals h.literal-index e h.found there h.invariant)

pub returns : goal.returns
returns c =
    let h = c.loop-literal in
    all_literals c.args.classes.now c.args.literals.now h.literal-index h.found (omega arith) h.invariant
