use Rattle.std.proofs.Common.{◌+◌, ◌∙◌, ap, sym, subst, refl, length, arith}
use Rattle.std.proofs.lemmas.Option.{slice_get_read}
use Rattle.wf_binding.specs.Validity.{IsBadRootLine}
use Rattle.wf_binding.specs.First.{IsFirst, Upto, earlier_of}
use Rattle.wf_binding.proofs.RootLines.{more_roots, all_roots}
use Rattle.wf_binding.proofs.roots.first_bad_root.Goals as goal

pub loop-line-preserved : goal.loop-line-preserved
loop-line-preserved c =
    let h = c.loop-line in
    let r = c.line-item.result in
    let lines = c.args.lines.now in
    let there = slice_get_read lines (length lines) h.line-index r refl c.loop-line-test.true c.line-item.is in
    subst (IsFirst (Upto (IsBadRootLine c.args.classes.now lines) (h.line-index + 1))) (sym (c.earlier_of-found.ensures ∙ ap (earlier_of h.found) c.at_line.ensures))
    (more_roots c.args.classes.now lines h.line-index r c.in_ok-word.word h.found there h.invariant c.in_ok-word.ensures)

pub returns : goal.returns
returns c = all_roots c.args.classes.now c.args.lines.now c.loop-line.line-index c.loop-line.found (omega arith) c.loop-line.invariant
