use Rattle.std.proofs.Common.{◌≡◌, ◌++◌, drop}
use Rattle.wf_rows.specs.Each.{each_from}
use Rattle.wf_rows.specs.Renaming.{all_renamed}
use Rattle.wf_graph.specs.BodyRows.{rows_of_handler}
use Rattle.wf_graph.proofs.covered.push_handlers.Given as goal

abbrev pub invariant-loop-handler : goal.invariant-loop-handler
invariant-loop-handler g l =
    l.rows.items ++ all_renamed (g.C.Context.number l.context) (each_from rows_of_handler l.handler-index (drop l.handler-index l.handlers))
    ≡ l.fn.rows.items ++ all_renamed (g.C.Context.number l.context) (each_from rows_of_handler 0 l.handlers)
