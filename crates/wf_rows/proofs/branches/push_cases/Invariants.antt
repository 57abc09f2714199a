use Rattle.std.proofs.Common.{◌≡◌, ◌++◌, drop}
use Rattle.wf_rows.specs.Renaming.{all_renamed}
use Rattle.wf_rows.specs.Each.{each_from}
use Rattle.wf_rows.specs.Branches.{case_rows}
use Rattle.wf_rows.proofs.branches.push_cases.Given as goal

abbrev pub invariant-loop-edge : goal.invariant-loop-edge
invariant-loop-edge g l =
    l.rows.items ++ all_renamed (g.C.Context.number l.context) (each_from (case_rows l.known l.next l.keys) l.edge (drop l.edge l.cases))
    ≡ l.fn.rows.items ++ all_renamed (g.C.Context.number l.context) (each_from (case_rows l.known l.next l.keys) 0 l.cases)
