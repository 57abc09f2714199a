use Rattle.std.proofs.Common.{◌≡◌, drop}
use Rattle.wf_first.specs.Nodes.{with_nodes, own_method_nodes}
use Rattle.wf_first.proofs.nodes.add_own_methods.Given as goal

abbrev pub invariant-loop-method : goal.invariant-loop-method
invariant-loop-method l = with_nodes l.nodes (own_method_nodes l.class (drop l.method-index l.method-items)) ≡ with_nodes l.initial.nodes (own_method_nodes l.class l.class.methods)
