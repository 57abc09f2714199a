use Rattle.std.proofs.Common.{◌≡◌, drop}
use Rattle.wf_solve.specs.Solving.{Visiting, IsPaid}
use Rattle.wf_solve.proofs.solver.visit.Given as goal

abbrev pub invariant-loop-row : goal.invariant-loop-row
invariant-loop-row g l = Visiting (g.B.Bodies.system l.bodies) (drop l.row-index l.rows) l.fn.words l.words l.work × (l.work.nodes ≡ l.fn.work.nodes) × IsPaid l.fn.words l.words l.fn.work l.work
