use Rattle.std.proofs.Common.{◌≡◌, ◌++◌, drop}
use Rattle.wf_rows.specs.Renaming.{all_renamed}
use Rattle.wf_rows.specs.Each.{each_from}
use Rattle.wf_rows.specs.Joins.{merged_rows}
use Rattle.wf_rows.proofs.joins.push_merged.Given as goal

abbrev pub invariant-loop-slot : goal.invariant-loop-slot
invariant-loop-slot g l =
    l.rows.items ++ all_renamed (g.C.Context.number l.context) (each_from (merged_rows l.guard l.to) l.slot (drop l.slot l.slots))
    ≡ l.fn.rows.items ++ all_renamed (g.C.Context.number l.context) (each_from (merged_rows l.guard l.to) 0 l.slots)
