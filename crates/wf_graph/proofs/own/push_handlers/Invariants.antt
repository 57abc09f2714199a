use Rattle.std.proofs.Common.{◌≡◌, ◌++◌, drop}
use Rattle.wf_rows.specs.Each.{each_from}
use Rattle.wf_graph.specs.BodyNodes.{handler_nodes}
use Rattle.wf_graph.proofs.own.push_handlers.Given as goal

abbrev pub invariant-loop-handler : goal.invariant-loop-handler
invariant-loop-handler l = l.own ++ each_from handler_nodes l.handler-index (drop l.handler-index l.handlers) ≡ l.fn.own ++ each_from handler_nodes 0 l.handlers
