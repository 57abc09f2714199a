use Rattle.std.proofs.Common.{◌≡◌, drop}
use Rattle.wf_names.specs.Members.{named_by}
use Rattle.wf_first.specs.Nodes.{with_nodes, result_nodes}
use Rattle.wf_first.proofs.nodes.add_results.Given as goal

abbrev pub invariant-loop-placed : goal.invariant-loop-placed
invariant-loop-placed l = with_nodes l.nodes (result_nodes (named_by l.method) (drop l.placed-index l.operations)) ≡ with_nodes l.initial.nodes (result_nodes (named_by l.method) l.operations)
