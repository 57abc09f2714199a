use Rattle.std.proofs.Common.{◌≡◌, ◌++◌, Some, drop}
use Rattle.wf_names.specs.Members.{named_by}
use Rattle.wf_first.specs.Nodes.{place_of}
use Rattle.wf_first.specs.Rows.{rows_along, found_rows}
use Rattle.wf_first.proofs.rows.push_along.Given as goal

abbrev pub invariant-loop-placed : goal.invariant-loop-placed
invariant-loop-placed l =
    l.rows.items ++ rows_along (place_of l.body.nodes.now) l.body.pool.now (named_by l.body.name) (Some l.known) (drop l.placed-index l.operations)
    ≡ l.fn.rows.items ++ found_rows (place_of l.body.nodes.now) l.body.pool.now (named_by l.body.name) (Some l.operations)
