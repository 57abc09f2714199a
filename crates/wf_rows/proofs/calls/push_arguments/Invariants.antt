use Rattle.std.proofs.Common.{◌≡◌, ◌+◌, ◌++◌, drop}
use Rattle.wf_rows.specs.Renaming.{all_renamed}
use Rattle.wf_rows.specs.Each.{each_from}
use Rattle.wf_rows.specs.Calls.{argument_rows}
use Rattle.wf_rows.proofs.calls.push_arguments.Given as goal

abbrev pub invariant-loop-i : goal.invariant-loop-i
invariant-loop-i g l =
    l.rows.items ++ all_renamed (g.C.Context.number l.context) (each_from (argument_rows l.known l.guard l.method) (l.first + l.i) (drop l.i l.depths))
    ≡ l.fn.rows.items ++ all_renamed (g.C.Context.number l.context) (each_from (argument_rows l.known l.guard l.method) l.first l.depths)
