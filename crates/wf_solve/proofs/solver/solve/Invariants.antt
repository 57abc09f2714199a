use Rattle.wf_solve.specs.Solving.{IsRunning}
use Rattle.wf_solve.proofs.SolveLaws.{left}
use Rattle.wf_solve.proofs.solver.solve.Given as goal

abbrev pub invariant-loop-node : goal.invariant-loop-node
invariant-loop-node g l = IsRunning (g.B.Bodies.system l.bodies) l.fn.words l.words l.fn.work l.work l.fn.steps l.steps

abbrev pub decreases-loop-node : goal.decreases-loop-node
decreases-loop-node g l = left (g.B.Bodies.system l.bodies) l.words l.work
