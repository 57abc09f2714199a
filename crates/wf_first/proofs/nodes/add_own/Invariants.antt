use Rattle.std.proofs.Common.{◌≡◌, drop}
use Rattle.wf_first.specs.Nodes.{with_nodes, own_nodes}
use Rattle.wf_first.proofs.nodes.add_own.Given as goal

abbrev pub invariant-loop-class : goal.invariant-loop-class
invariant-loop-class l = with_nodes l.nodes (own_nodes (drop l.class-index l.classes)) ≡ with_nodes l.initial.nodes (own_nodes l.classes)
