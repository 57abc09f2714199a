use Rattle.std.proofs.Common.{Some, ◌∙◌}
use Rattle.wf_ssa.specs.Environments.{before_along}
use Rattle.wf_known.proofs.Nodes.{says, said_predicate, said_slots}
use Rattle.wf_known.proofs.along.moved.Goals as goal

pub returns : goal.returns
returns c =
    λ k said many. let m = c.args.method in
    let front = c.args.front.now in
    says m (before_along (Some c.args.operation.now) c.args.pc c.args.edge c.args.fails k) _ (c.predicate_along-predicate.ensures k.predicate (said_predicate m k front said))
    (c.in_ok-slots.ensures.along m k.names (c.as_slice.ensures ∙ said_slots m k front said) many)
