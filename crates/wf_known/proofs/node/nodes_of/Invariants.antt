use Rattle.std.proofs.Common.{◌≡◌, ◌++◌, map, take}
use Rattle.wf_known.specs.Flows.{node_of}
use Rattle.wf_known.proofs.node.nodes_of.Given as goal

abbrev pub invariant-loop-name : goal.invariant-loop-name
invariant-loop-name l = l.nodes.items ≡ l.fn.nodes.items ++ map (node_of l.method) (take l.name-index l.names)
