use Rattle.std.proofs.Common.{◌≡◌, ◌++◌, drop}
use Rattle.wf_first.specs.Nodes.{place_of}
use Rattle.wf_first.specs.Rows.{rows_of}
use Rattle.wf_first.proofs.rows.rows_of.Given as goal

abbrev pub invariant-loop-class : goal.invariant-loop-class
invariant-loop-class l = l.rows.items ++ rows_of (place_of l.nodes) (drop l.class-index l.classes) ≡ rows_of (place_of l.nodes) l.classes
