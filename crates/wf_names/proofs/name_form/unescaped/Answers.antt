use Rattle.std.proofs.Common.{sym, ap, ◌∙◌, Some, List, ℕ, arith}
use Rattle.wf_names.proofs.Unescaping.{stops, ends}
use Rattle.wf_names.proofs.name_form.unescaped.Goals as goal

pub returns-in-None : goal.returns-in-None
returns-in-None c = sym (stops c.loop-b.name.items c.args.word.now c.loop-b.escape c.loop-b.b-index _ c.loop-b-test.true (sym c.in-None.ensures) c.loop-b.invariant)

pub returns-in-Outside : goal.returns-in-Outside
returns-in-Outside c =
    let inside = rw c.in-Outside.is at c.loop-b.invariant in
    ap (λ (bytes : List ℕ). Some bytes) c.from_vec.ensures ∙ sym (ends c.loop-b.name.items c.args.word.now c.loop-b.b-index _ (omega arith) inside)
