use Rattle.std.proofs.Common.{◌≡◌, ◌++◌, drop}
use Rattle.wf_first.specs.Nodes.{place_of}
use Rattle.wf_first.specs.Rows.{method_rows}
use Rattle.wf_first.proofs.rows.push_methods.Given as goal

abbrev pub invariant-loop-method : goal.invariant-loop-method
invariant-loop-method l = l.rows.items ++ method_rows (place_of l.nodes) l.class (drop l.method-index l.method-items) ≡ l.fn.rows.items ++ method_rows (place_of l.nodes) l.class l.class.methods
