use Rattle.std.proofs.Common.{List, drop-cons, add-one, refl, ◌∙◌, subst, arith}
use Rattle.std.proofs.lemmas.List.{drop_all}
use Rattle.wf_base.specs.declared.ids.NodeId.{NodeId}
use Rattle.wf_system.specs.declared.inequality.Inequality.{Inequality}
use Rattle.wf_solve.specs.Solving.{Visiting}
use Rattle.wf_solve.proofs.SolveLaws.{visiting_first, visiting_done, paid_none, paid_both}
use Rattle.wf_solve.proofs.solver.visit.Goals as goal

pub loop-row-init : goal.loop-row-init
loop-row-init g c = (visiting_first (g.B.Bodies.system c.args.bodies.now) c.args.node c.args.rows.now c.args.words.now c.args.work.now c.requires.readers c.requires.covered, refl, paid_none c.args.words.now c.args.work.now)

pub loop-row-preserved : goal.loop-row-preserved
loop-row-preserved g c = (
  rw add-one (c.visit_one.ensures.next _ c.args.words.now
      (subst (λ (l : List (Inequality NodeId)). Visiting (g.B.Bodies.system c.args.bodies.now) l c.args.words.now c.loop-row.words c.loop-row.work) (drop-cons c.args.rows.now c.loop-row.row-index _ c.loop-row-test.true) c.loop-row.invariant.0)),
  c.visit_one.ensures.list ∙ c.loop-row.invariant.1,
  paid_both c.args.words.now c.loop-row.words c.visit_one.new.words c.args.work.now c.loop-row.work c.visit_one.new.work c.loop-row.invariant.2 c.visit_one.ensures.paid,
)

pub returns-clause-covered : goal.returns-clause-covered
returns-clause-covered g c = visiting_done (g.B.Bodies.system c.args.bodies.now) c.args.words.now c.loop-row.words c.loop-row.work
    (subst (λ (l : List (Inequality NodeId)). Visiting (g.B.Bodies.system c.args.bodies.now) l c.args.words.now c.loop-row.words c.loop-row.work) (drop_all c.loop-row.row-index c.args.rows.now (omega arith)) c.loop-row.invariant.0)
