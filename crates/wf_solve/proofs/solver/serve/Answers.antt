use Rattle.wf_solve.proofs.SolveLaws.{covered_again, keeps_added}
use Rattle.wf_solve.proofs.solver.serve.Goals as goal

pub returns-in-Err-clause-covered : goal.returns-in-Err-clause-covered
returns-in-Err-clause-covered g c = covered_again (g.B.Bodies.system c.args.bodies.now) c.args.node c.args.words.now c.args.work.now c.add.new.self c.requires.covered c.add.ensures.there
    (λ m h. keeps_added c.args.node.0 m c.args.work.now c.add.new.self c.add.ensures h)
