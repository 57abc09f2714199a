use Rattle.std.proofs.Common.{◌≡◌, ℕ, ◌-◌, ◌^◌, refl, sym, ap, subst}
use Rattle.wf_base.specs.declared.ids.NodeId.{NodeId}
use Rattle.wf_system.specs.declared.inequality.ValueOp.{ValueOp}
use Rattle.wf_system.specs.declared.inequality.ValueOp.TheVariants as ops
use Rattle.wf_system.specs.Shapes.{shape_at}
use Rattle.wf_system.specs.Fits.{ValueFits, ValueIsThere}
use Rattle.wf_system.specs.Bodies.{tables_of}
use Rattle.wf_lattice.specs.Words.{one_word}
use Rattle.wf_eval.specs.declared.plan.Plan.TheVariants.{First, Row, OneType}
use Rattle.wf_eval.specs.Plans.{SaidPlan}
use Rattle.wf_eval.proofs.WordLaws.{constant_said, copy_said, copy_fits}
use Rattle.wf_eval.proofs.lookup.Lookup.plan.Goals as goal

pub returns-in-Token-clause-said : goal.returns-in-Token-clause-said
returns-in-Token-clause-said g c = subst (λ (v : ValueOp NodeId). SaidPlan c.args.self.now.shape.now c.args.self.now.most c.args.self.now.side.now v c.args.to (g.W.Words.seen c.args.words.now) (g.W.Words.seen c.args.words.now) (First 1)) (sym c.in-Token.is)
    (constant_said c.args.self.now.shape.now c.args.self.now.most c.args.self.now.side.now ops.Token c.args.to (First 1) (g.W.Words.seen c.args.words.now) (λ x k. refl))

pub returns-in-AnyInt-clause-said : goal.returns-in-AnyInt-clause-said
returns-in-AnyInt-clause-said g c = subst (λ (v : ValueOp NodeId). SaidPlan c.args.self.now.shape.now c.args.self.now.most c.args.self.now.side.now v c.args.to (g.W.Words.seen c.args.words.now) (g.W.Words.seen c.args.words.now) (First (2 ^ 64 - 1))) (sym c.in-AnyInt.is)
    (constant_said c.args.self.now.shape.now c.args.self.now.most c.args.self.now.side.now ops.AnyInt c.args.to (First (2 ^ 64 - 1)) (g.W.Words.seen c.args.words.now) (λ x k. refl))

pub returns-in-AnyLong-clause-said : goal.returns-in-AnyLong-clause-said
returns-in-AnyLong-clause-said g c = subst (λ (v : ValueOp NodeId). SaidPlan c.args.self.now.shape.now c.args.self.now.most c.args.self.now.side.now v c.args.to (g.W.Words.seen c.args.words.now) (g.W.Words.seen c.args.words.now) (First 1)) (sym c.in-AnyLong.is)
    (constant_said c.args.self.now.shape.now c.args.self.now.most c.args.self.now.side.now ops.AnyLong c.args.to (First 1) (g.W.Words.seen c.args.words.now) (λ x k. refl))

pub returns-in-NullRef-clause-said : goal.returns-in-NullRef-clause-said
returns-in-NullRef-clause-said g c = subst (λ (v : ValueOp NodeId). SaidPlan c.args.self.now.shape.now c.args.self.now.most c.args.self.now.side.now v c.args.to (g.W.Words.seen c.args.words.now) (g.W.Words.seen c.args.words.now) (OneType (record { 0 = 0 }))) (sym c.in-NullRef.is)
    (constant_said c.args.self.now.shape.now c.args.self.now.most c.args.self.now.side.now ops.NullRef c.args.to (OneType (record { 0 = 0 })) (g.W.Words.seen c.args.words.now) (λ x k. refl))

pub returns-in-OneType-clause-said : goal.returns-in-OneType-clause-said
returns-in-OneType-clause-said g c = subst (λ (v : ValueOp NodeId). SaidPlan c.args.self.now.shape.now c.args.self.now.most c.args.self.now.side.now v c.args.to (g.W.Words.seen c.args.words.now) (g.W.Words.seen c.args.words.now) c.one_type.result) (sym c.in-OneType.is)
    (constant_said c.args.self.now.shape.now c.args.self.now.most c.args.self.now.side.now (ops.OneType c.in-OneType.t) c.args.to c.one_type.result (g.W.Words.seen c.args.words.now) c.one_type.ensures.given)

pub returns-in-Copy-clause-said : goal.returns-in-Copy-clause-said
returns-in-Copy-clause-said g c = subst (λ (v : ValueOp NodeId). SaidPlan c.args.self.now.shape.now c.args.self.now.most c.args.self.now.side.now v c.args.to (g.W.Words.seen c.args.words.now) (g.W.Words.seen c.args.words.now) (Row c.node.result)) (sym c.in-Copy.is)
    (copy_said c.args.self.now.shape.now c.args.self.now.most c.args.self.now.side.now c.args.to c.in-Copy.a c.node.result (g.W.Words.seen c.args.words.now) c.node.ensures)

pub returns-in-Copy-clause-fits : goal.returns-in-Copy-clause-fits
returns-in-Copy-clause-fits g c =
    let fits : ValueFits (tables_of c.args.self.now.shape.now c.args.self.now.most c.args.self.now.side.now) (ops.Copy c.in-Copy.a) c.args.to = subst (λ (v : ValueOp NodeId). ValueFits (tables_of c.args.self.now.shape.now c.args.self.now.most c.args.self.now.side.now) v c.args.to) c.in-Copy.is c.requires.fits in
    let there : ValueIsThere (tables_of c.args.self.now.shape.now c.args.self.now.most c.args.self.now.side.now) (ops.Copy c.in-Copy.a) = subst (λ (v : ValueOp NodeId). ValueIsThere (tables_of c.args.self.now.shape.now c.args.self.now.most c.args.self.now.side.now) v) c.in-Copy.is c.requires.there in
    copy_fits c.args.self.now.shape.now c.args.self.now.most c.args.self.now.side.now c.args.to c.in-Copy.a c.node.result c.args.self.now.laid c.requires.shaped fits.0 fits.1 there c.node.ensures

pub returns-in-Picks-clause-fits : goal.returns-in-Picks-clause-fits
returns-in-Picks-clause-fits g c = c.picks.ensures.fits (shape_at c.args.self.now.shape.now c.args.to.0).words
