use Rattle.std.proofs.Common.{◌≡◌, map}
use Rattle.std.specs.List.{range_with_len}
use Rattle.wf_ssa.specs.Environments.{entry_name}
use Rattle.wf_known.specs.Flows.{node_of}
use Rattle.wf_graph.proofs.entry.entry_nodes.Given as goal

abbrev pub invariant-loop-local : goal.invariant-loop-local
invariant-loop-local l = l.nodes.items ≡ map (node_of l.method) (map (entry_name l.body) (range_with_len 0 l.local))
