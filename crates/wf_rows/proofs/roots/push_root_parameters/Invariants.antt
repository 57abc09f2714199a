use Rattle.std.proofs.Common.{◌≡◌, ◌++◌, drop}
use Rattle.wf_rows.specs.Renaming.{all_renamed}
use Rattle.wf_rows.specs.Each.{each_from}
use Rattle.wf_rows.specs.Roots.{root_parameter_rows}
use Rattle.wf_rows.proofs.roots.push_root_parameters.Given as goal

abbrev pub invariant-loop-i : goal.invariant-loop-i
invariant-loop-i g l =
    l.rows.items ++ all_renamed (g.C.Context.number l.context) (each_from (root_parameter_rows l.method) l.i (drop l.i l.parameters))
    ≡ l.fn.rows.items ++ all_renamed (g.C.Context.number l.context) (each_from (root_parameter_rows l.method) 0 l.parameters)
