use Rattle.std.proofs.Common.{ℕ, List}
use Rattle.wf_system.specs.declared.node_shape.NodeShape.{NodeShape}
use Rattle.wf_system.specs.Bodies.{is_node, is_element, tables_of}
use Rattle.wf_system.specs.Kept.{PutsWhere}
use Rattle.wf_system.proofs.kept.put_each.Given as goal

abbrev pub invariant-loop-elem : goal.invariant-loop-elem
invariant-loop-elem l = (nodes : List NodeShape) (most : ℕ) → PutsWhere (λ n. is_element is_node (tables_of nodes most l.side) l.elem-index n) l.q l.fn.lists l.lists
