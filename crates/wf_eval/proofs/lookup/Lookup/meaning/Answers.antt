use Rattle.std.proofs.Common.{◌≡◌, ℕ, ◌+◌, ◌≤◌, sym, ap, ◌∙◌, subst, arith}
use Rattle.wf_lattice.specs.Order.{is_saturated}
use Rattle.wf_system.specs.declared.node_shape.NodeShape.{NodeShape}
use Rattle.wf_eval.specs.Said.{SaidBool}
use Rattle.wf_eval.specs.Reading.{span_row, IsInside}
use Rattle.wf_eval.proofs.PlanLaws.{RefsAt, refs_at}
use Rattle.wf_eval.proofs.lookup.Lookup.meaning.Goals as goal

pub is_saturated-saturated-requires-clause-place : goal.is_saturated-saturated-requires-clause-place
is_saturated-saturated-requires-clause-place g c = subst (λ (s : NodeShape). IsInside c.args.self.now.shape.now s) (sym c.node-of.ensures)
    (refs_at c.args.self.now.shape.now c.args.self.now.most c.args.self.now.side.now c.args.a c.args.self.now.laid c.requires.shaped c.requires.refs).inside

pub returns-clause-said : goal.returns-clause-said
returns-clause-said g c =
    let at : RefsAt c.args.self.now.shape.now c.args.self.now.side.now c.args.a = refs_at c.args.self.now.shape.now c.args.self.now.most c.args.self.now.side.now c.args.a c.args.self.now.laid c.requires.shaped c.requires.refs in
    let e : c.node-of.result.words ≡ c.node-made.result.words = ap (λ (s : NodeShape). s.words) c.node-of.ensures ∙ at.same ∙ sym (ap (λ (s : NodeShape). s.words) c.node-made.ensures) in
    subst (λ (n : ℕ). SaidBool (λ x. is_saturated c.args.self.now.most n (span_row x c.node-of.result)) (g.W.Words.seen c.args.words.now) (g.W.Words.seen c.is_saturated-saturated.new.words) c.is_saturated-saturated.result) e c.is_saturated-saturated.ensures

pub returns-clause-fits : goal.returns-clause-fits
returns-clause-fits g c =
    let at : RefsAt c.args.self.now.shape.now c.args.self.now.side.now c.args.a = refs_at c.args.self.now.shape.now c.args.self.now.most c.args.self.now.side.now c.args.a c.args.self.now.laid c.requires.shaped c.requires.refs in
    record {
      of = subst (λ (s : NodeShape). IsInside c.args.self.now.shape.now s) (sym c.node-of.ensures) at.inside;
      made = subst (λ (s : NodeShape). IsInside c.args.self.now.shape.now s) (sym c.node-made.ensures) at.made;
      same = ap (λ (s : NodeShape). s.words) c.node-of.ensures ∙ at.same ∙ sym (ap (λ (s : NodeShape). s.words) c.node-made.ensures);
    }
