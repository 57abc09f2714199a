use Rattle.std.proofs.Common.{◌≡◌, ◌++◌, drop}
use Rattle.wf_rows.specs.Renaming.{all_renamed}
use Rattle.wf_rows.specs.Each.{each_from}
use Rattle.wf_rows.specs.Roots.{type_rows}
use Rattle.wf_rows.proofs.roots.push_types.Given as goal

abbrev pub invariant-loop-of : goal.invariant-loop-of
invariant-loop-of g l =
    l.rows.items ++ all_renamed (g.C.Context.number l.context) (each_from (type_rows l.target) l.of-index (drop l.of-index l.types))
    ≡ l.fn.rows.items ++ all_renamed (g.C.Context.number l.context) (each_from (type_rows l.target) 0 l.types)
