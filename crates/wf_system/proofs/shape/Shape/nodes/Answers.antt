use Rattle.std.proofs.Common.{arith, le_refl, length}
use Rattle.wf_system.proofs.ShapeLaws.{nodes_few}
use Rattle.wf_system.proofs.shape.Shape.nodes.Goals as goal

pub overflow_cast-result : goal.overflow_cast-result
overflow_cast-result c = record { fits = omega (arith, nodes_few c.self.inside.nodes (length c.self.inside.nodes) c.self.invariant (le_refl (length c.self.inside.nodes)), c.self.invariant.few, c.len.ensures) }
