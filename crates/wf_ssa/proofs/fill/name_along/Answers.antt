use Rattle.std.proofs.Common.{Some, length, sym, ap, ◌∙◌}
use Rattle.std.specs.Option.{option_copied}
use Rattle.wf_blocks.specs.declared.body.Body.{Body}
use Rattle.wf_blocks.specs.Bodies.{operation_at}
use Rattle.wf_ssa.specs.Environments.{name_at, pc_at}
use Rattle.wf_ssa.specs.Keeping.{named, renamed_by}
use Rattle.wf_ssa.proofs.BackLemmas.{known_count}
use Rattle.wf_ssa.proofs.MoveLemmas.{slot_named, name_same}
use Rattle.wf_ssa.proofs.fill.name_along.Goals as goal

pub returns-in-Name : goal.returns-in-Name
returns-in-Name c =
    λ failing k sound kept here there first second. let b = c.args.blocks.now in
    let p = c.args.place in
    sym (c.trace.ensures failing c.args.edge k here there ∙ ap (named (renamed_by (operation_at b p) (pc_at b p) c.args.edge k.names)) c.in-Name.is)

pub returns-in-Slot : goal.returns-in-Slot
returns-in-Slot c =
    λ failing k sound kept here there first second. let b = c.args.blocks.now in
    let p = c.args.place in
    let o = c.operation_at-operation.ensures ∙ ap (λ (x : Body). operation_at x p) c.body-in-Slot.ensures in
    let pc = c.pc_at-pc.ensures ∙ ap (λ (x : Body). pc_at x p) c.body.ensures in
    let n = known_count b failing p k c.slots-count.result c.slots-count.ensures.every c.slots-count.ensures.reached here in
    c.name_by.ensures
    ∙ name_same c.pc_at-pc.result (pc_at b p) (option_copied c.operation_at-operation.result) (operation_at b p) c.slots-count.result (Some (length k.names)) c.args.edge c.args.one c.args.two c.in-Slot.from
    c.flow_in-name.result (name_at k.names c.in-Slot.from) pc o n (c.flow_in-name.ensures failing k sound kept here)
    ∙ slot_named (operation_at b p) (pc_at b p) c.args.edge k.names c.args.one c.args.two c.in-Slot.from first second
    ∙ ap (named (renamed_by (operation_at b p) (pc_at b p) c.args.edge k.names)) (sym c.in-Slot.is) ∙ sym (c.trace.ensures failing c.args.edge k here there)
