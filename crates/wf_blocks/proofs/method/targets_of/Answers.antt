use Rattle.std.proofs.Common.{◌<◌, sym, ◌∙◌, arith}
use Rattle.wf_operation.specs.Nexts.{edge_count}
use Rattle.wf_blocks.specs.Methods.{target_at}
use Rattle.wf_blocks.proofs.MethodLemmas.{ranged_none}
use Rattle.wf_blocks.proofs.method.targets_of.Goals as goal

pub returns-in-None : goal.returns-in-None
returns-in-None c =
    let lt : c.loop-edge.edge < edge_count c.args.next.now = omega (arith, c.loop-edge-test.true, c.edges_of-edge-end.ensures) in
    sym (ranged_none (target_at c.args.places.now c.args.place c.args.next.now) (edge_count c.args.next.now) c.loop-edge.edge lt (sym c.target_at.ensures ∙ c.in-None.is))
