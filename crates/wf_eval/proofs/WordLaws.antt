-- Words of plans.
use Rattle.std.proofs.Common.{arith, ltb-true, nat_lt, ◌≤◌, IsTrue, inr, [], ℤ, slice_index_or, ◌≡◌, ℕ, zero, suc, ◌<◌, Bool, true, false, if◌then◌else◌, List, length, Option, Some, None, bit_and, bit_or, refl, sym, ap, ◌∙◌, subst}
use Rattle.std.proofs.lemmas.Bool.{true≢false}
use Rattle.wf_base.specs.declared.ids.NodeId.{NodeId}
use Rattle.wf_lattice.specs.declared.kind.NodeKind.{NodeKind}
use Rattle.wf_lattice.specs.declared.kind.NodeKind.TheVariants as kinds
use Rattle.wf_base.specs.declared.cmp.Cmp.{Cmp}
use Rattle.wf_lattice.specs.Words.{IsIn, both}
use Rattle.wf_lattice.specs.Ints.{constant_word, refined_word, not_among_word}
use Rattle.wf_lattice.proofs.BitLaws.{in_itself, and_grows, or_grows}
use Rattle.wf_lattice.proofs.IntLaws.{refined_word_grows, not_among_word_grows}
use Rattle.wf_system.specs.declared.side.Side.{Side}
use Rattle.wf_system.specs.declared.inequality.ValueOp.TheVariants as ops
use Rattle.wf_eval.specs.declared.plan.Plan.TheVariants.{First, Row}
use Rattle.wf_eval.specs.declared.plan.Plan.{Plan}
use Rattle.wf_eval.specs.Plans.{planned, SaidPlan}
use Rattle.wf_system.specs.declared.inequality.ValueOp.{ValueOp}
use Rattle.wf_system.specs.Fits.{HasTypes, AreShaped, IsOfTypes, IsCopied}
use Rattle.wf_system.specs.Bodies.{tables_of}
use Rattle.wf_system.proofs.GrowLaws.{same_words}
use Rattle.wf_lattice.proofs.RowLaws.{within_itself}
use Rattle.wf_eval.proofs.PlanLaws.{kind_there}
use Rattle.wf_eval.proofs.OpLaws.{one_word_in}
use Rattle.wf_system.specs.declared.node_shape.NodeShape.{NodeShape}
use Rattle.wf_system.specs.Shapes.{shape_at, IsLaidOut}
use Rattle.wf_system.specs.Rows.{type_row}
use Rattle.wf_system.specs.System.{row_if, elem_row, one_type, given}
use Rattle.wf_system.proofs.ShapeLaws.{node_within}
use Rattle.wf_eval.specs.Said.{Seen, SaidWord, SaidBool}
use Rattle.wf_eval.specs.Reading.{span_row, rows_of, IsInside}
use Rattle.wf_eval.proofs.SaidLaws.{said_at_once, said_then, said_so, said_known}

pub inside_at : (nodes : List NodeShape) (n : ℕ) (at : NodeShape) → IsLaidOut nodes → at ≡ shape_at nodes n → n < length nodes → IsInside nodes at
inside_at nodes n at laid e lt = subst (λ (s : NodeShape). IsInside nodes s) (sym e) (node_within nodes n laid lt)

-- the elements of a type that has a node
pub elem_there : (nodes : List NodeShape) (o : Option NodeId) (node : NodeId) (at : NodeShape) (k w : ℕ) (r : Bool) {h : (ℕ → ℕ) → Bool} {a b c : Seen} → o ≡ Some node → at ≡ shape_at nodes node.0 → r ≡ true
    → SaidBool h a b r → SaidWord (λ x. span_row x at k) b c w → SaidWord (λ x. row_if (h x) (elem_row (rows_of nodes x) o) k) a c w
elem_there nodes o node at k w r {h} {a} {b} {c} is e holds p q = subst (λ (i : Option NodeId). SaidWord (λ x. row_if (h x) (elem_row (rows_of nodes x) i) k) a c w) (sym is)
    (subst (λ (s : NodeShape). SaidWord (λ x. if h x then span_row x s k else 0) a c w) e
    (said_then p q (λ x u v. low (h x) (span_row x at k) v) (λ x u v. high (h x) (span_row x at k) (u holds) v)))
  where
    low : (t : Bool) (v : ℕ) → IsIn v w → IsIn (if t then v else 0) w
    low true v p = p
    low false v p = refl

    high : (t : Bool) (v : ℕ) → t ≡ true → IsIn w v → IsIn w (if t then v else 0)
    high true v e p = p
    high false v e p = absurd (true≢false (sym e))

pub elem_none : (nodes : List NodeShape) (o : Option NodeId) (k : ℕ) (h : (ℕ → ℕ) → ℕ → Bool) (c : (ℕ → ℕ) → ℕ) (s : Seen) → o ≡ None → SaidWord (λ x. row_if (h x (c x)) (elem_row (rows_of nodes x) o) k) s s 0
elem_none nodes o k h c s is = said_known s (λ x. subst (λ (i : Option NodeId). ◌≡◌ {A = ℕ} (row_if (h x (c x)) (elem_row (rows_of nodes x) i) k) 0) (sym is) (same (h x (c x))))
  where
    same : (b : Bool) → ◌≡◌ {A = ℕ} (if b then 0 else 0) 0
    same true = refl
    same false = refl

-- one type, where the target isn't that of the types that are made
pub one_type_made : (kind : NodeKind) (c : ℕ) (inst : ℕ → ℕ) → (kind ≡ kinds.Inst → ⊥) → one_type kind c inst ≡ both (type_row c) inst
one_type_made kinds.Token c inst other = refl
one_type_made kinds.Int c inst other = refl
one_type_made kinds.Long c inst other = refl
one_type_made kinds.Refs c inst other = refl
one_type_made kinds.Inst c inst other = absurd (other refl)
one_type_made kinds.Links c inst other = refl

-- ints
pub refined_said : (nodes : List NodeShape) (most : ℕ) (side : Side) (to : NodeId) (cmp : Cmp) (a b : NodeId) (p q : NodeShape) (v w r : ℕ) {s t u : Seen} → p ≡ shape_at nodes a.0 → q ≡ shape_at nodes b.0
    → SaidWord (λ x. span_row x p 0) s t v → SaidWord (λ x. span_row x q 0) t u w → r ≡ refined_word cmp v w → SaidPlan nodes most side (ops.IntRefine cmp a b) to s u (First r)
refined_said nodes most side to cmp a b p q v w r {s} {t} {u} e f h i is = said_then
    (subst (λ (z : NodeShape). SaidWord (λ x. span_row x z 0) s t v) e h) (subst (λ (z : NodeShape). SaidWord (λ x. span_row x z 0) t u w) f i)
    (λ x l m. one_word_in (refined_word cmp (rows_of nodes x a 0) (rows_of nodes x b 0)) r (subst (λ (z : ℕ). IsIn (refined_word cmp (rows_of nodes x a 0) (rows_of nodes x b 0)) z) (sym is)
    (refined_word_grows cmp (rows_of nodes x a 0) (rows_of nodes x b 0) v w (inr l) (inr m))))
    (λ x l m. one_word_in r (refined_word cmp (rows_of nodes x a 0) (rows_of nodes x b 0)) (subst (λ (z : ℕ). IsIn z (refined_word cmp (rows_of nodes x a 0) (rows_of nodes x b 0))) (sym is)
    (refined_word_grows cmp v w (rows_of nodes x a 0) (rows_of nodes x b 0) (inr l) (inr m))))

pub refined_by_said : (nodes : List NodeShape) (most : ℕ) (side : Side) (to : NodeId) (cmp : Cmp) (a : NodeId) (j : ℤ) (p : NodeShape) (v r : ℕ) {s t : Seen} → p ≡ shape_at nodes a.0
    → SaidWord (λ x. span_row x p 0) s t v → r ≡ refined_word cmp v (constant_word j) → SaidPlan nodes most side (ops.IntRefineBy cmp a j) to s t (First r)
refined_by_said nodes most side to cmp a j p v r {s} {t} e h is = said_so
    (subst (λ (z : NodeShape). SaidWord (λ x. span_row x z 0) s t v) e h)
    (λ x l. one_word_in (refined_word cmp (rows_of nodes x a 0) (constant_word j)) r (subst (λ (z : ℕ). IsIn (refined_word cmp (rows_of nodes x a 0) (constant_word j)) z) (sym is)
    (refined_word_grows cmp (rows_of nodes x a 0) (constant_word j) v (constant_word j) (inr l) (inr (in_itself (constant_word j))))))
    (λ x l. one_word_in r (refined_word cmp (rows_of nodes x a 0) (constant_word j)) (subst (λ (z : ℕ). IsIn z (refined_word cmp (rows_of nodes x a 0) (constant_word j))) (sym is)
    (refined_word_grows cmp v (constant_word j) (rows_of nodes x a 0) (constant_word j) (inr l) (inr (in_itself (constant_word j))))))

pub not_in_said : (nodes : List NodeShape) (most : ℕ) (side : Side) (to : NodeId) (a : NodeId) (place : ℕ) (p : NodeShape) (v r : ℕ) {s t : Seen} → p ≡ shape_at nodes a.0
    → SaidWord (λ x. span_row x p 0) s t v → r ≡ not_among_word (slice_index_or side.keys place []) v → SaidPlan nodes most side (ops.NotIn a place) to s t (First r)
not_in_said nodes most side to a place p v r {s} {t} e h is = said_so
    (subst (λ (z : NodeShape). SaidWord (λ x. span_row x z 0) s t v) e h)
    (λ x l. one_word_in (not_among_word (slice_index_or side.keys place []) (rows_of nodes x a 0)) r (subst (λ (z : ℕ). IsIn (not_among_word (slice_index_or side.keys place []) (rows_of nodes x a 0)) z) (sym is)
    (not_among_word_grows (slice_index_or side.keys place []) (rows_of nodes x a 0) v (inr l))))
    (λ x l. one_word_in r (not_among_word (slice_index_or side.keys place []) (rows_of nodes x a 0)) (subst (λ (z : ℕ). IsIn z (not_among_word (slice_index_or side.keys place []) (rows_of nodes x a 0))) (sym is)
    (not_among_word_grows (slice_index_or side.keys place []) v (rows_of nodes x a 0) (inr l))))

-- words of plans
pub said_with : {f : (ℕ → ℕ) → ℕ} {a b : Seen} {w : ℕ} (u v : ℕ) → u ≡ v → SaidWord f a b w → SaidWord (λ x. bit_and v (f x)) a b (bit_and u w)
said_with {f} {a} {b} {w} u v e p = subst (λ (z : ℕ). SaidWord (λ x. bit_and v (f x)) a b (bit_and z w)) (sym e)
    (said_so p (λ x h. and_grows v (f x) v w (in_itself v) h) (λ x h. and_grows v w v (f x) (in_itself v) h))

pub said_joined : {f : (ℕ → ℕ) → ℕ} {a b : Seen} {w : ℕ} (u v : ℕ) → u ≡ v → SaidWord f a b w → SaidWord (λ x. bit_or (f x) v) a b (bit_or w u)
said_joined {f} {a} {b} {w} u v e p = subst (λ (z : ℕ). SaidWord (λ x. bit_or (f x) v) a b (bit_or w z)) (sym e)
    (said_so p (λ x h. or_grows (f x) v w v h (in_itself v)) (λ x h. or_grows w v (f x) v h (in_itself v)))

-- a node of types other than that of those that are made is one of references
only_refs : (kind : NodeKind) → IsOfTypes kind → (kind ≡ kinds.Inst → ⊥) → kind ≡ kinds.Refs
only_refs kinds.Token of other = absurd of
only_refs kinds.Int of other = absurd of
only_refs kinds.Long of other = absurd of
only_refs kinds.Refs of other = refl
only_refs kinds.Inst of other = absurd (other refl)
only_refs kinds.Links of other = absurd of

pub type_plan_fits : (nodes : List NodeShape) (most : ℕ) (side : Side) (to : NodeId) (at : NodeShape) → IsLaidOut nodes → AreShaped (tables_of nodes most side) → IsOfTypes (shape_at nodes to.0).kind
    → ((shape_at nodes to.0).kind ≡ kinds.Inst → ⊥) → at ≡ shape_at nodes side.inst.0 → IsInside nodes at × ((shape_at nodes to.0).words ≤ at.words)
type_plan_fits nodes most side to at laid shaped of other e =
    let has : HasTypes (tables_of nodes most side) = shaped.types to of in (
      inside_at nodes side.inst.0 at laid e (kind_there nodes side.inst.0 kinds.Inst (λ h. absurd cc) has.inst),
      omega (arith, has.refs to (only_refs (shape_at nodes to.0).kind of other), ap (λ (s : NodeShape). s.words) e),
    )

-- a value that is copied
pub copy_said : (nodes : List NodeShape) (most : ℕ) (side : Side) (to a : NodeId) (at : NodeShape) (s : Seen) → at ≡ shape_at nodes a.0 → SaidPlan nodes most side (ops.Copy a) to s s (Row at)
copy_said nodes most side to a at s e = subst (λ (i : NodeShape). SaidPlan nodes most side (ops.Copy a) to s s (Row i)) (sym e)
    (said_at_once s (λ x. within_itself (span_row x (shape_at nodes a.0))) (λ x. within_itself (span_row x (shape_at nodes a.0))))

pub copy_fits : (nodes : List NodeShape) (most : ℕ) (side : Side) (to a : NodeId) (at : NodeShape) → IsLaidOut nodes → AreShaped (tables_of nodes most side) → (shape_at nodes a.0).kind ≡ (shape_at nodes to.0).kind
    → IsCopied (shape_at nodes to.0).kind → IsTrue (nat_lt a.0 (length nodes)) → at ≡ shape_at nodes a.0 → IsInside nodes at × ((shape_at nodes to.0).words ≤ at.words)
copy_fits nodes most side to a at laid shaped kind copied there e = (
  inside_at nodes a.0 at laid e (ltb-true a.0 (length nodes) there),
  omega (arith, same_words (tables_of nodes most side) shaped a to kind copied, ap (λ (s : NodeShape). s.words) e),
)

-- a value that reads nothing
pub constant_said : (nodes : List NodeShape) (most : ℕ) (side : Side) (value : ValueOp NodeId) (to : NodeId) (p : Plan) (s : Seen)
    → ((x : ℕ → ℕ) (k : ℕ) → planned nodes side p x k ≡ given (tables_of nodes most side) value (rows_of nodes x) to k) → SaidPlan nodes most side value to s s p
constant_said nodes most side value to p s e = said_at_once s
    (λ x. record { each = λ k. subst (λ (w : ℕ). IsIn (given (tables_of nodes most side) value (rows_of nodes x) to k) w) (sym (e x k)) (in_itself (given (tables_of nodes most side) value (rows_of nodes x) to k)) })
    (λ x. record { each = λ k. subst (λ (w : ℕ). IsIn w (given (tables_of nodes most side) value (rows_of nodes x) to k)) (sym (e x k)) (in_itself (given (tables_of nodes most side) value (rows_of nodes x) to k)) })
