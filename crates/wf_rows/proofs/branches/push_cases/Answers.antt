use Rattle.std.proofs.Common.{pos, arith}
use Rattle.wf_rows.specs.Branches.{case_rows}
use Rattle.wf_rows.proofs.Adding.{added_next}
use Rattle.wf_rows.proofs.branches.push_cases.Goals as goal

pub loop-edge-preserved : goal.loop-edge-preserved
loop-edge-preserved g c =
    added_next (g.C.Context.number c.args.context.now) (case_rows c.args.known.now c.args.next.now c.args.keys) c.args.cases.now c.loop-edge.edge
    (record { key = pos 0; target = 0 }) c.loop-edge.rows.items c.push_along.new.rows.items _ (omega arith) c.in_ok-push_along.ensures c.loop-edge.invariant
