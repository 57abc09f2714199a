use Rattle.std.proofs.Common.{arith, ◌∙◌}
use Rattle.wf_solve.proofs.SolveLaws.{covered_but, running_first, running_next, steps_at_most, left_falls}
use Rattle.wf_solve.proofs.solver.solve.Goals as goal

pub loop-node-init : goal.loop-node-init
loop-node-init g c = running_first (g.B.Bodies.system c.args.bodies.now) c.args.words.now c.args.work.now c.args.steps.now c.requires.covered c.requires.list (λ i. (c.type_inv.words i).fits)

pub serve-requires-clause-covered : goal.serve-requires-clause-covered
serve-requires-clause-covered g c = covered_but (g.B.Bodies.system c.args.bodies.now) c.in-Some.node c.loop-node.words c.loop-node.work c.take_before.new.self c.loop-node.invariant.covered
    (λ m listed other. c.in-Some.ensures.taken.others m other ∙ listed)

pub returns-in-Err-clause-steps : goal.returns-in-Err-clause-steps
returns-in-Err-clause-steps g c = omega (
  arith,
  c.tick.ensures,
  steps_at_most (g.B.Bodies.system c.args.bodies.now) c.args.words.now c.loop-node.words c.args.work.now c.loop-node.work c.args.steps.now c.loop-node.steps c.loop-node.invariant c.requires.words,
)

pub loop-node-smaller : goal.loop-node-smaller
loop-node-smaller g c = left_falls (g.B.Bodies.system c.args.bodies.now) c.loop-node.words c.serve.new.words c.loop-node.work c.take_before.new.self c.serve.new.work c.in-Some.node.0 c.loop-node.invariant.nodes c.in-Some.ensures.taken c.in_default-serve.ensures.paid c.serve.ensures.same (λ i. (c.type_inv.words i).fits)

pub loop-node-preserved : goal.loop-node-preserved
loop-node-preserved g c = running_next (g.B.Bodies.system c.args.bodies.now) c.args.words.now c.loop-node.words c.serve.new.words c.args.work.now c.loop-node.work c.take_before.new.self c.serve.new.work c.in-Some.node.0 c.args.steps.now c.loop-node.steps c.tick.new.self
    c.loop-node.invariant c.in-Some.ensures.taken c.serve.ensures.covered c.serve.ensures.stays c.serve.ensures.list c.in_default-serve.ensures.paid c.tick.ensures (λ i. (c.type_inv.words i).fits)

pub returns-clause-steps : goal.returns-clause-steps
returns-clause-steps g c = omega (
  arith,
  steps_at_most (g.B.Bodies.system c.args.bodies.now) c.args.words.now c.loop-node.words c.args.work.now c.loop-node.work c.args.steps.now c.loop-node.steps c.loop-node.invariant c.requires.words,
)
