use Rattle.std.proofs.Common.{◌≡◌, ◌++◌, drop}
use Rattle.wf_rows.specs.Renaming.{all_renamed}
use Rattle.wf_rows.specs.Each.{each_from}
use Rattle.wf_rows.specs.Arrays.{stored_rows}
use Rattle.wf_rows.proofs.arrays.push_stored.Given as goal

abbrev pub invariant-loop-of : goal.invariant-loop-of
invariant-loop-of g l =
    l.rows.items ++ all_renamed (g.C.Context.number l.context) (each_from (stored_rows l.guard l.array l.stored) l.of-index (drop l.of-index l.arrays))
    ≡ l.fn.rows.items ++ all_renamed (g.C.Context.number l.context) (each_from (stored_rows l.guard l.array l.stored) 0 l.arrays)
