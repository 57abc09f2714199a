use Rattle.std.proofs.Common.{◌≡◌, ◌++◌, drop}
use Rattle.wf_rows.specs.Renaming.{all_renamed}
use Rattle.wf_rows.specs.Each.{each_from}
use Rattle.wf_rows.specs.Classes.{element_rows}
use Rattle.wf_rows.proofs.classes.push_elements.Given as goal

abbrev pub invariant-loop-of : goal.invariant-loop-of
invariant-loop-of g l =
    l.rows.items ++ all_renamed (g.C.Context.number l.context) (each_from (element_rows) l.of-index (drop l.of-index l.arrays))
    ≡ l.fn.rows.items ++ all_renamed (g.C.Context.number l.context) (each_from (element_rows) 0 l.arrays)
