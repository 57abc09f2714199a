use Rattle.std.proofs.Common.{◌≡◌, ◌++◌, drop}
use Rattle.wf_rows.specs.Renaming.{all_renamed}
use Rattle.wf_rows.specs.Each.{each_from}
use Rattle.wf_rows.specs.Classes.{request_rows}
use Rattle.wf_rows.proofs.classes.push_requests.Given as goal

abbrev pub invariant-loop-class : goal.invariant-loop-class
invariant-loop-class g l =
    l.rows.items ++ all_renamed (g.C.Context.number l.context) (each_from (request_rows l.guard) l.class-index (drop l.class-index l.classes))
    ≡ l.fn.rows.items ++ all_renamed (g.C.Context.number l.context) (each_from (request_rows l.guard) 0 l.classes)
