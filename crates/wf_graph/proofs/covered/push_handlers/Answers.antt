use Rattle.std.proofs.Common.{None, arith}
use Rattle.wf_rows.proofs.Adding.{added_next}
use Rattle.wf_graph.specs.BodyRows.{rows_of_handler}
use Rattle.wf_graph.proofs.covered.push_handlers.Goals as goal

pub loop-handler-preserved : goal.loop-handler-preserved
loop-handler-preserved g c =
    added_next (g.C.Context.number c.args.context.now) rows_of_handler c.args.handlers.now c.loop-handler.handler-index None c.loop-handler.rows.items c.push_handler.new.rows.items _ (omega arith)
    (c.in_ok-push_handler.ensures c.loop-handler.handler-index) c.loop-handler.invariant
