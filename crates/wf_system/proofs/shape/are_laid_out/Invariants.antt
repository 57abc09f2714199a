use Rattle.wf_system.proofs.ShapeLaws.{LaidOutTo}
use Rattle.wf_system.proofs.shape.are_laid_out.Given as goal

abbrev pub invariant-loop-node : goal.invariant-loop-node
invariant-loop-node l = LaidOutTo l.nodes l.node-index l.next
