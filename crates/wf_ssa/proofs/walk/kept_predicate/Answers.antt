use Rattle.std.proofs.Common.{sym, ap, ◌∙◌, arith}
use Rattle.std.specs.Option.{option_copied}
use Rattle.wf_ssa.specs.declared.before.Before.{Before}
use Rattle.wf_ssa.proofs.TraceLemmas.{is_entry}
use Rattle.wf_ssa.proofs.walk.kept_predicate.Goals as goal

pub returns-then-place-eq0 : goal.returns-then-place-eq0
returns-then-place-eq0 c =
    λ failing k sound kept there. let b = c.args.blocks.now in
    ap (λ (x : Before). x.predicate) (sym (is_entry b failing there.marks c.args.place k there.are there.before (omega (arith, c.if-place-eq0.true)) (sym (c.requires.meets.each there.marks c.args.place there.are c.requires.inside) ∙ sym c.is_marked.ensures ∙ c.if-is_marked.false)))

pub returns-in-Some : goal.returns-in-Some
returns-in-Some c =
    λ failing k sound kept there. ap (λ (x : Before). x.predicate) (sound.each c.args.place c.in-Some.row.now k (sym c.row_at.ensures ∙ ap option_copied c.in-Some.is) there)
