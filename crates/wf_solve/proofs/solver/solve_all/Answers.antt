use Rattle.std.proofs.Common.{ap, ◌∙◌, length, List}
use Rattle.wf_system.specs.declared.node_shape.NodeShape.{NodeShape}
use Rattle.wf_solve.proofs.SolveLaws.{covered_by_all, between_itself}
use Rattle.wf_solve.proofs.solver.solve_all.Goals as goal

pub returns-in-Err-clause-between : goal.returns-in-Err-clause-between
returns-in-Err-clause-between g c = between_itself (g.B.Bodies.system c.args.bodies.now) c.args.words.now

pub solve-requires-clause-covered : goal.solve-requires-clause-covered
solve-requires-clause-covered g c = covered_by_all (g.B.Bodies.system c.args.bodies.now) c.args.words.now c.in-Ok.work c.requires.fits c.in-Ok.ensures.all
    (c.in-Ok.ensures.nodes ∙ c.nodes.ensures.count ∙ ap (λ (l : List NodeShape). length l) c.shape.ensures)
