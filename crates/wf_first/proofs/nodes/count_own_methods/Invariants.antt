use Rattle.std.proofs.Common.{◌≡◌, ◌+◌, ◌≤◌, min, length, drop}
use Rattle.wf_first.specs.declared.limits.TheConstants.{MAX_NODES}
use Rattle.wf_first.specs.Nodes.{own_method_nodes}
use Rattle.wf_first.proofs.nodes.count_own_methods.Given as goal

abbrev pub invariant-loop-method : goal.invariant-loop-method
invariant-loop-method l = record {
  so_far : min (l.count + length (own_method_nodes l.class (drop l.method-index l.method-items))) (MAX_NODES + 1) ≡ min (length (own_method_nodes l.class l.class.methods)) (MAX_NODES + 1);
  few : l.count ≤ MAX_NODES + 1;
}
