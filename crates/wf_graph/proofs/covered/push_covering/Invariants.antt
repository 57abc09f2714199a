use Rattle.std.proofs.Common.{◌≡◌, ◌++◌, drop}
use Rattle.wf_rows.specs.Each.{each_from}
use Rattle.wf_rows.specs.Renaming.{all_renamed}
use Rattle.wf_graph.specs.BodyRows.{entry_over}
use Rattle.wf_graph.proofs.covered.push_covering.Given as goal

abbrev pub invariant-loop-entry : goal.invariant-loop-entry
invariant-loop-entry g l =
    l.rows.items ++ all_renamed (g.C.Context.number l.context) (each_from (entry_over l.handlers l.known l.place) l.entry (drop l.entry l.catchers))
    ≡ l.fn.rows.items ++ all_renamed (g.C.Context.number l.context) (each_from (entry_over l.handlers l.known l.place) 0 l.catchers)
