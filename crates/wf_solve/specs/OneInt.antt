-- The smallest system, which the tests solve: one int, and no inequality.
use Rattle.std.specs.Prelude.{◌≡◌, List, [], ◌∷◌}
use Rattle.wf_lattice.specs.declared.kind.NodeKind.TheVariants as kinds
use Rattle.wf_system.specs.declared.node_shape.NodeShape.{NodeShape}
use Rattle.wf_system.specs.declared.side.Side.{Side}
use Rattle.wf_system.specs.Bodies.{System}

abbrev pub int_node : NodeShape
int_node = record { kind = kinds.Int; first_word = 0; words = 1 }

-- the system of some nodes, without an inequality
abbrev pub no_rows : List NodeShape → Side → System
no_rows nodes side = record { nodes = nodes; most = 0; side = side; rows = [] }

-- the only node is an int, and no class has a row of types
pub record IsOneInt (nodes : List NodeShape) (side : Side) : Type 0 where
  pub nodes_are : nodes ≡ int_node ∷ []
  pub no_masks : side.masks ≡ []
