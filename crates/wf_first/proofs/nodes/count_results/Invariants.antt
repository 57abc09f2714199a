use Rattle.std.proofs.Common.{◌≡◌, ◌+◌, ◌≤◌, length, drop}
use Rattle.wf_names.specs.declared.member.MemberName.{MemberName}
use Rattle.wf_first.specs.Nodes.{result_nodes}
use Rattle.wf_first.proofs.nodes.count_results.Given as goal

abbrev pub invariant-loop-placed : goal.invariant-loop-placed
invariant-loop-placed l = record {
  so_far : (name : MemberName) → l.count + length (result_nodes name (drop l.placed-index l.operations)) ≡ length (result_nodes name l.operations);
  few : l.count ≤ l.placed-index;
}
