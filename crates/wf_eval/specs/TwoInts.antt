-- The small system of the tests: two ints, and no type.
use Rattle.std.specs.Prelude.{◌≡◌, ℕ, List, [], ◌∷◌}
use Rattle.wf_base.specs.declared.ids.NodeId.{NodeId}
use Rattle.wf_lattice.specs.declared.kind.NodeKind.TheVariants as kinds
use Rattle.wf_system.specs.declared.node_shape.NodeShape.{NodeShape}
use Rattle.wf_system.specs.declared.side.Side.{Side}
use Rattle.wf_system.specs.declared.inequality.ValueOp.{ValueOp}
use Rattle.wf_system.specs.Fits.{ValueFits, ValueIsThere}
use Rattle.wf_system.specs.Bodies.{tables_of}

abbrev pub int_at : ℕ → NodeShape
int_at place = record { kind = kinds.Int; first_word = place; words = 1 }

abbrev pub second : NodeId
second = record { 0 = 1 }

-- the nodes are two ints, and no class has a row of types
pub record AreTwoInts (nodes : List NodeShape) (side : Side) : Type 0 where
  pub nodes_are : nodes ≡ int_at 0 ∷ int_at 1 ∷ []
  pub no_masks : side.masks ≡ []

-- the value fits the second of them
pub record FitsSecond (nodes : List NodeShape) (side : Side) (value : ValueOp NodeId) : Type 0 where
  pub kinds : ValueFits (tables_of nodes 0 side) value second
  pub there : ValueIsThere (tables_of nodes 0 side) value
