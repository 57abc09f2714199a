use Rattle.std.proofs.Common.{ℕ, length, sym, ap, ◌∙◌}
use Rattle.std.proofs.lemmas.Bool.{ltb-true, ltb-false}
use Rattle.std.proofs.lemmas.List.{get_or_past}
use Rattle.wf_blocks.specs.declared.body.Body.{Body}
use Rattle.wf_ssa.specs.declared.name.FlowName.TheVariants.{Nothing}
use Rattle.wf_ssa.specs.Environments.{pc_at, met_name}
use Rattle.wf_ssa.proofs.BackLemmas.{known_reached}
use Rattle.wf_ssa.proofs.TraceLemmas.{is_met_here, met_slot}
use Rattle.wf_ssa.proofs.walk.met_flow.Goals as goal

pub returns-then-is_slot : goal.returns-then-is_slot
returns-then-is_slot c =
    λ failing k marks are together there. let b = c.args.blocks.now in
    let lt = ltb-true c.args.slot (length k.names) (sym (c.is_slot.ensures.value failing k there) ∙ c.if-is_slot.true) in
    let pc = c.pc_at.ensures ∙ ap (λ (x : Body). pc_at x c.args.place) c.body.ensures in
    c.met_name.ensures ∙ ap (λ (p : ℕ). met_name p c.kind_in.result c.args.slot) pc
    ∙ met_slot b failing c.args.place c.args.slot k c.kind_in.result there (is_met_here b failing marks c.args.place k are together there) lt (c.kind_in.ensures (known_reached b failing c.args.place k there))

pub returns : goal.returns
returns c =
    λ failing k marks are together there.
    sym (get_or_past k.names c.args.slot Nothing (ltb-false c.args.slot (length k.names) (sym (c.is_slot.ensures.value failing k there) ∙ c.if-is_slot.false)))
