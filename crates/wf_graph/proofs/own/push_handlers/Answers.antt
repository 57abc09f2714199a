use Rattle.std.proofs.Common.{None, arith}
use Rattle.wf_own.proofs.Added.{added_next}
use Rattle.wf_graph.specs.BodyNodes.{handler_nodes}
use Rattle.wf_graph.proofs.own.push_handlers.Goals as goal

pub loop-handler-preserved : goal.loop-handler-preserved
loop-handler-preserved c =
    let place = c.loop-handler.handler-index in
    added_next handler_nodes c.args.handlers.now place None c.loop-handler.own c.push_handler.new.own _ (omega arith) (c.in_ok-push_handler.ensures place) c.loop-handler.invariant
