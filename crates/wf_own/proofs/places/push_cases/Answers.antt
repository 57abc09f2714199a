use Rattle.std.proofs.Common.{pos, arith}
use Rattle.wf_rows.specs.OwnNodes.{case_nodes}
use Rattle.wf_own.proofs.Added.{added_next}
use Rattle.wf_own.proofs.places.push_cases.Goals as goal

pub loop-edge-preserved : goal.loop-edge-preserved
loop-edge-preserved c =
    added_next (case_nodes c.args.pc c.args.next.now) c.args.cases.now c.loop-edge.edge (record { key = pos 0; target = 0 }) c.loop-edge.nodes c.push_along.new.nodes _
    (omega arith) c.in_ok-push_along.ensures c.loop-edge.invariant
