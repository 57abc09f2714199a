use Rattle.std.proofs.Common.{◌≡◌, true, List, Option, None, Some, ℕ, slice_index_or, sym, subst, arith}
use Rattle.wf_base.specs.declared.ids.NodeId.{NodeId}
use Rattle.wf_lattice.specs.declared.kind.NodeKind.TheVariants.{Refs}
use Rattle.wf_system.specs.Shapes.{shape_at}
use Rattle.wf_system.proofs.FitLaws.{has_types, types_are}
use Rattle.wf_system.proofs.shaped.has_types.Goals as goal

pub returns-then-not-has_kind : goal.returns-then-not-has_kind
returns-then-not-has_kind c = λ most. (λ h. absurd cc, λ f. let fit : c.has_kind.result ≡ true = c.has_kind.ensures.1 f.inst in absurd cc)

pub returns-then-not-types_fit : goal.returns-then-not-types_fit
returns-then-not-types_fit c = λ most. (λ h. absurd cc, λ f. let fit : c.types_fit.result ≡ true = c.types_fit.ensures.1 (types_are c.args.shape.now most c.args.side.now f c.words_of-row.result c.words_of-row.ensures) in absurd cc)

pub returns-then-len-row : goal.returns-then-len-row
returns-then-len-row c = λ most. (λ h. absurd cc, λ f. absurd (omega (arith, f.bits, c.words_of-row.ensures, c.len.ensures, c.if-len-row.true)))

pub returns : goal.returns
returns c = λ most. (
  λ h. has_types c.args.shape.now most c.args.side.now c.words_of-row.result c.words_of-row.ensures
      (c.has_kind.ensures.0 c.if-not-has_kind.false) (c.types_fit.ensures.0 c.if-not-types_fit.false) (omega (arith, c.len.ensures, c.if-len-row.false))
      (subst (λ (l : List (Option NodeId)). (d : ℕ) (n : NodeId) → slice_index_or l d None ≡ Some n → (shape_at c.args.shape.now n.0).kind ≡ Refs) c.as_slice.ensures (c.elems_fit.ensures.0 h)),
  λ f. c.elems_fit.ensures.1 (subst (λ (l : List (Option NodeId)). (d : ℕ) (n : NodeId) → slice_index_or l d None ≡ Some n → (shape_at c.args.shape.now n.0).kind ≡ Refs) (sym c.as_slice.ensures) f.elem),
)
