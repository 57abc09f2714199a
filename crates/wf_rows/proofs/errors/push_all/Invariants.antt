use Rattle.std.proofs.Common.{◌≡◌, ◌++◌, drop}
use Rattle.wf_rows.specs.Renaming.{all_renamed}
use Rattle.wf_rows.specs.Each.{each_from}
use Rattle.wf_rows.specs.Errors.{error_at}
use Rattle.wf_rows.proofs.errors.push_all.Given as goal

abbrev pub invariant-loop-error : goal.invariant-loop-error
invariant-loop-error g l =
    l.rows.items ++ all_renamed (g.C.Context.number l.context) (each_from (error_at l.guard (g.C.Context.thrown l.context)) l.error-index (drop l.error-index l.errors))
    ≡ l.fn.rows.items ++ all_renamed (g.C.Context.number l.context) (each_from (error_at l.guard (g.C.Context.thrown l.context)) 0 l.errors)
