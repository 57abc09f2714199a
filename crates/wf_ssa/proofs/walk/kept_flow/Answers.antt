use Rattle.std.proofs.Common.{sym, ap, ◌∙◌, arith}
use Rattle.std.specs.Option.{option_copied}
use Rattle.wf_blocks.specs.declared.body.Body.{Body}
use Rattle.wf_ssa.specs.declared.before.Before.{Before}
use Rattle.wf_ssa.specs.Environments.{name_at, entry_name}
use Rattle.wf_ssa.proofs.TraceLemmas.{is_entry, entry_slot}
use Rattle.wf_ssa.proofs.walk.kept_flow.Goals as goal

pub returns-then-is_marked : goal.returns-then-is_marked
returns-then-is_marked c = λ failing k sound kept there. c.met_flow.ensures failing k there.marks there.are (sym (c.requires.meets.each there.marks c.args.place there.are c.requires.inside) ∙ sym c.is_marked.ensures ∙ c.if-is_marked.true) there

pub returns-then-place-eq0 : goal.returns-then-place-eq0
returns-then-place-eq0 c =
    λ failing k sound kept there. let b = c.args.blocks.now in
    c.entry_name.ensures ∙ ap (λ (x : Body). entry_name x c.args.slot) c.body.ensures ∙ entry_slot b c.args.slot
    ∙ ap (λ (x : Before). name_at x.names c.args.slot) (sym (is_entry b failing there.marks c.args.place k there.are there.before (omega (arith, c.if-place-eq0.true)) (sym (c.requires.meets.each there.marks c.args.place there.are c.requires.inside) ∙ sym c.is_marked.ensures ∙ c.if-is_marked.false)))

pub returns-in-Some : goal.returns-in-Some
returns-in-Some c =
    λ failing k sound kept there.
    c.row_name.ensures ∙ ap (λ (x : Before). name_at x.names c.args.slot) (sound.each c.args.place c.in-Some.row.now k (sym c.row_at.ensures ∙ ap option_copied c.in-Some.is) there)
