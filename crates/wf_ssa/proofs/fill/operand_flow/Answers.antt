use Rattle.std.proofs.Common.{Option, ℕ, ap, ◌∙◌}
use Rattle.wf_operation.specs.declared.operation.Operation.{Operation}
use Rattle.wf_blocks.specs.declared.body.Body.{Body}
use Rattle.wf_blocks.specs.Bodies.{operation_at}
use Rattle.wf_ssa.specs.Environments.{name_at}
use Rattle.wf_ssa.specs.Keeping.{slot_by}
use Rattle.wf_ssa.proofs.BackLemmas.{known_count}
use Rattle.wf_ssa.proofs.fill.operand_flow.Goals as goal

pub returns : goal.returns
returns c =
    λ failing k sound kept there. let b = c.args.blocks.now in
    let p = c.args.place in
    let o = c.operation_at-operation.ensures ∙ ap (λ (x : Body). operation_at x p) c.body.ensures in
    let n = known_count b failing p k c.slots-count.result c.slots-count.ensures.every c.slots-count.ensures.reached there in
    c.flow_in.ensures failing k sound kept there
    ∙ ap (name_at k.names) (c.slot_by-slot.ensures ∙ ap (λ (x : Option Operation). slot_by x c.slots-count.result c.args.operand) o ∙ ap (λ (x : Option ℕ). slot_by (operation_at b p) x c.args.operand) n)
