use Rattle.std.proofs.Common.{◌≡◌, ◌-◌, false, not, arith, sym, ap, subst, ◌∙◌}
use Rattle.wf_blocks.specs.Answers.{IsCount}
use Rattle.wf_blocks.specs.Bodies.{inner_of}
use Rattle.wf_blocks.proofs.CountLemmas.{kept_count, start_positive}
use Rattle.wf_blocks.proofs.counts.count_of.Goals as goal

pub returns-then-is_start : goal.returns-then-is_start
returns-then-is_start c =
    let b = c.args.body.now in
    let start : inner_of b c.args.place ≡ false = ap not (sym (c.requires.marks c.args.place c.requires.inside) ∙ sym c.is_start.ensures ∙ c.if-is_start.true) in
    subst (IsCount b c.args.rows.now c.args.place) (sym c.kept_count.ensures) (kept_count b c.args.rows.now c.args.place c.requires.rows start)

pub next_count-requires-clause-before : goal.next_count-requires-clause-before
next_count-requires-clause-before c =
    let b = c.args.body.now in
    let positive = start_positive b c.args.place (ap not (sym (c.requires.marks c.args.place c.requires.inside) ∙ sym c.is_start.ensures ∙ c.if-is_start.false)) in
    c.requires.before (c.args.place - 1) (omega (arith, positive))
