use Rattle.std.proofs.Common.{◌∙◌, sym, ap, subst, arith, length, ltb-true}
use Rattle.std.proofs.lemmas.Bool.{true≢false}
use Rattle.wf_system.specs.Shapes.{all_words, IsLaidOut}
use Rattle.wf_solve.proofs.SolveLaws.{shaped_as, fits_as, raises_as, keeps_added, visiting_next, paid_added, paid_still}
use Rattle.wf_solve.proofs.solver.visit_one.Goals as goal

pub raise-requires-clause-all : goal.raise-requires-clause-all
raise-requires-clause-all g c = c.requires.all ∙ ap all_words (sym (c.new-lookup.ensures.shape ∙ c.shape.ensures))

pub raise-requires-clause-shaped : goal.raise-requires-clause-shaped
raise-requires-clause-shaped g c = shaped_as (g.B.Bodies.system c.args.bodies.now) c.new-lookup.result.shape.now c.new-lookup.result.most c.new-lookup.result.side.now (c.new-lookup.ensures.shape ∙ c.shape.ensures) (c.new-lookup.ensures.most ∙ c.threshold.ensures) (c.new-lookup.ensures.side ∙ c.side.ensures) c.requires.fits.shaped

pub raise-requires-clause-fits : goal.raise-requires-clause-fits
raise-requires-clause-fits g c = fits_as (g.B.Bodies.system c.args.bodies.now) c.new-lookup.result.shape.now c.new-lookup.result.most c.new-lookup.result.side.now c.args.row (c.new-lookup.ensures.shape ∙ c.shape.ensures) (c.new-lookup.ensures.most ∙ c.threshold.ensures) (c.new-lookup.ensures.side ∙ c.side.ensures) (c.requires.fits.each c.args.row c.requires.there)

pub returns-then-raise-clause-next : goal.returns-then-raise-clause-next
returns-then-raise-clause-next g c = λ rest start v. visiting_next (g.B.Bodies.system c.args.bodies.now) c.args.row rest start c.args.words.now c.raise.new.words c.args.work.now c.add.new.self c.raise.result c.requires.fits (subst IsLaidOut (c.new-lookup.ensures.shape ∙ c.shape.ensures) c.new-lookup.result.laid)
    (raises_as (g.B.Bodies.system c.args.bodies.now) c.new-lookup.result.shape.now c.new-lookup.result.most c.new-lookup.result.side.now c.args.row c.args.words.now c.raise.new.words c.raise.result (c.new-lookup.ensures.shape ∙ c.shape.ensures) (c.new-lookup.ensures.most ∙ c.threshold.ensures) (c.new-lookup.ensures.side ∙ c.side.ensures) c.raise.ensures)
    (λ e. c.add.ensures.there) (λ m h. keeps_added c.args.row.target.0 m c.args.work.now c.add.new.self c.add.ensures h) v

pub returns-else-raise-clause-next : goal.returns-else-raise-clause-next
returns-else-raise-clause-next g c = λ rest start v. visiting_next (g.B.Bodies.system c.args.bodies.now) c.args.row rest start c.args.words.now c.raise.new.words c.args.work.now c.args.work.now c.raise.result c.requires.fits (subst IsLaidOut (c.new-lookup.ensures.shape ∙ c.shape.ensures) c.new-lookup.result.laid)
    (raises_as (g.B.Bodies.system c.args.bodies.now) c.new-lookup.result.shape.now c.new-lookup.result.most c.new-lookup.result.side.now c.args.row c.args.words.now c.raise.new.words c.raise.result (c.new-lookup.ensures.shape ∙ c.shape.ensures) (c.new-lookup.ensures.most ∙ c.threshold.ensures) (c.new-lookup.ensures.side ∙ c.side.ensures) c.raise.ensures)
    (λ e. absurd (true≢false (sym e ∙ c.if-raise.false))) (λ m h. h) v

pub add-requires : goal.add-requires
add-requires g c = omega (arith, c.requires.list, ltb-true c.args.row.target.0 (length (g.B.Bodies.system c.args.bodies.now).nodes) (c.requires.fits.each c.args.row c.requires.there).target_there)

pub returns-then-raise-clause-paid : goal.returns-then-raise-clause-paid
returns-then-raise-clause-paid g c = paid_added c.args.words.now c.raise.new.words c.args.row.target.0 c.args.work.now c.add.new.self c.raise.ensures.same (c.raise.ensures.more c.if-raise.true) c.add.ensures

pub returns-else-raise-clause-paid : goal.returns-else-raise-clause-paid
returns-else-raise-clause-paid g c = paid_still c.args.words.now c.raise.new.words c.args.work.now (c.raise.ensures.still c.if-raise.false)
