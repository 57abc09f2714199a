use Rattle.wf_eval.proofs.OpLaws.{all_under_said}
use Rattle.std.proofs.Common.{sym, subst, ap, arith, refl, true, false}
use Rattle.wf_system.specs.declared.node_shape.NodeShape.{NodeShape}
use Rattle.wf_eval.specs.Reading.{IsInside}
use Rattle.wf_eval.proofs.PlanLaws.{refs_at}
use Rattle.wf_eval.proofs.lookup.Lookup.some_under.Goals as goal

pub returns-clause-said : goal.returns-clause-said
returns-clause-said g c = all_under_said c.args.self.now.shape.now c.args.self.now.most c.args.self.now.side.now c.args.to c.args.u c.node-made.result c.is_over-over.result true c.node-made.ensures c.is_over-over.ensures

pub is_over-over-requires-clause-fits : goal.is_over-over-requires-clause-fits
is_over-over-requires-clause-fits g c = record {
  from = subst (λ (s : NodeShape). IsInside c.args.self.now.shape.now s) (sym c.node-made.ensures)
      (refs_at c.args.self.now.shape.now c.args.self.now.most c.args.self.now.side.now c.args.to c.args.self.now.laid c.requires.shaped c.requires.refs).made;
  words = refl;
  mask = c.requires.target;
}

pub returns-clause-fits : goal.returns-clause-fits
returns-clause-fits g c = (
  record {
    from = subst (λ (s : NodeShape). IsInside c.args.self.now.shape.now s) (sym c.node-made.ensures)
        (refs_at c.args.self.now.shape.now c.args.self.now.most c.args.self.now.side.now c.args.to c.args.self.now.laid c.requires.shaped c.requires.refs).made;
    words = refl;
    mask = c.requires.target;
  },
  omega (arith, ap (λ (s : NodeShape). s.words) c.node-made.ensures),
)
