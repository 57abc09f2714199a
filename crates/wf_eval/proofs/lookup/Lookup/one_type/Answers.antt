use Rattle.std.proofs.Common.{◌≡◌, ℕ, bit_and, sym, ap, ◌∙◌, subst}
use Rattle.wf_lattice.specs.declared.kind.NodeKind.{NodeKind}
use Rattle.wf_system.specs.declared.node_shape.NodeShape.{NodeShape}
use Rattle.wf_system.specs.Shapes.{shape_at}
use Rattle.wf_system.specs.Rows.{type_row}
use Rattle.wf_eval.specs.Reading.{span_row}
use Rattle.wf_eval.proofs.WordLaws.{one_type_made, type_plan_fits}
use Rattle.wf_eval.proofs.lookup.Lookup.one_type.Goals as goal

pub returns-in_default : goal.returns-in_default
returns-in_default c = record {
  given = λ x k. ap (λ (s : NodeShape). bit_and (type_row c.args.t.0 k) (span_row x s k)) c.node-in_default.ensures
      ∙ sym (ap (λ (f : ℕ → ℕ). f k) (one_type_made (shape_at c.args.self.now.shape.now c.args.to.0).kind c.args.t.0 (span_row x (shape_at c.args.self.now.shape.now c.args.self.now.side.now.inst.0))
      (λ e. c.in_default.not-Inst (ap (λ (s : NodeShape). s.kind) c.node.ensures ∙ e))));
  fits = type_plan_fits c.args.self.now.shape.now c.args.self.now.most c.args.self.now.side.now c.args.to c.node-in_default.result c.args.self.now.laid c.requires.shaped c.requires.fits.0
      (λ e. c.in_default.not-Inst (ap (λ (s : NodeShape). s.kind) c.node.ensures ∙ e)) c.node-in_default.ensures;
}
