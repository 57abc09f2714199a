use Rattle.std.proofs.Common.{Option, ℕ, ap, ◌∙◌}
use Rattle.wf_operation.specs.declared.operation.Operation.{Operation}
use Rattle.wf_blocks.specs.declared.body.Body.{Body}
use Rattle.wf_blocks.specs.Bodies.{operation_at}
use Rattle.wf_ssa.specs.Environments.{pc_at, fails_there}
use Rattle.wf_ssa.specs.Keeping.{left_by}
use Rattle.std.specs.Option.{option_copied}
use Rattle.wf_ssa.proofs.MoveLemmas.{left_is}
use Rattle.wf_ssa.proofs.fill.predicate_along.Goals as goal

pub returns : goal.returns
returns c =
    λ failing k fails sound kept there. let b = c.args.blocks.now in
    let p = c.args.place in
    let o = c.operation_at-operation.ensures ∙ ap (λ (x : Body). operation_at x p) c.body-2.ensures in
    let pc = c.pc_at-pc.ensures ∙ ap (λ (x : Body). pc_at x p) c.body.ensures in
    c.left_by.ensures ∙ ap (λ (n : ℕ). left_by n (option_copied c.operation_at-operation.result) c.args.edge c.predicate_after-other.result) pc
    ∙ ap (λ (x : Option Operation). left_by (pc_at b p) x c.args.edge c.predicate_after-other.result) o
    ∙ ap (left_by (pc_at b p) (operation_at b p) c.args.edge) (c.predicate_after-other.ensures failing k fails sound kept there)
    ∙ left_is (operation_at b p) (pc_at b p) c.args.edge (fails_there failing (pc_at b p)) k
