use Rattle.std.proofs.Common.{◌≡◌, ◌+◌, ◌≤◌, min, length, drop}
use Rattle.wf_first.specs.declared.limits.TheConstants.{MAX_NODES}
use Rattle.wf_first.specs.Nodes.{shared_nodes}
use Rattle.wf_first.proofs.nodes.count_shared.Given as goal

abbrev pub invariant-loop-class : goal.invariant-loop-class
invariant-loop-class l = record {
  so_far : min (l.count + length (shared_nodes (drop l.class-index l.classes))) (MAX_NODES + 1) ≡ min (length (shared_nodes l.classes)) (MAX_NODES + 1);
  few : l.count ≤ MAX_NODES + 1;
}
