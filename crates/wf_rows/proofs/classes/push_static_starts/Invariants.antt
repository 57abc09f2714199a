use Rattle.std.proofs.Common.{◌≡◌, ◌++◌, drop}
use Rattle.wf_rows.specs.Renaming.{all_renamed}
use Rattle.wf_rows.specs.Each.{each_from}
use Rattle.wf_rows.specs.Classes.{static_start_rows}
use Rattle.wf_rows.proofs.classes.push_static_starts.Given as goal

abbrev pub invariant-loop-start : goal.invariant-loop-start
invariant-loop-start g l =
    l.rows.items ++ all_renamed (g.C.Context.number l.context) (each_from (static_start_rows l.guard) l.start-index (drop l.start-index l.fields))
    ≡ l.fn.rows.items ++ all_renamed (g.C.Context.number l.context) (each_from (static_start_rows l.guard) 0 l.fields)
