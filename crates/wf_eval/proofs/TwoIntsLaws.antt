-- The two ints of the tests are shaped, and inequalities between them fit.
use Rattle.std.proofs.Common.{◌≡◌, ℕ, ◌+◌, ◌<◌, ◌≤◌, ◌⊎◌, inl, inr, List, [], ◌∷◌, slice_index_or, refl, sym, ap, ◌∙◌, subst, arith}
use Rattle.std.proofs.lemmas.Bool.{cases_lt}
use Rattle.std.proofs.lemmas.List.{get_or_past}
use Rattle.wf_base.specs.declared.ids.NodeId.{NodeId}
use Rattle.wf_lattice.specs.Words.{words_of}
use Rattle.wf_lattice.specs.declared.kind.NodeKind.{NodeKind}
use Rattle.wf_system.specs.declared.node_shape.NodeShape.{NodeShape}
use Rattle.wf_system.specs.declared.side.Side.{Side}
use Rattle.wf_system.specs.declared.inequality.Guard.TheVariants.{NonEmpty}
use Rattle.wf_system.specs.declared.inequality.ValueOp.{ValueOp}
use Rattle.wf_system.specs.declared.inequality.Inequality.{Inequality}
use Rattle.wf_system.specs.Shapes.{no_node, shape_at, all_words}
use Rattle.wf_system.specs.Fits.{IsOfTypes, AreShaped, Fits}
use Rattle.wf_system.specs.Bodies.{tables_of}
use Rattle.wf_eval.specs.TwoInts.{int_at, second, AreTwoInts, FitsSecond}

module _ (nodes : List NodeShape) (side : Side) (two : AreTwoInts nodes side) where
  -- a node is the first int, the second, or isn't there
  each_is : (n : ℕ) → (shape_at nodes n ≡ int_at 0) ⊎ ((shape_at nodes n ≡ int_at 1) ⊎ (shape_at nodes n ≡ no_node))
  each_is n = subst (λ (l : List NodeShape). (shape_at l n ≡ int_at 0) ⊎ ((shape_at l n ≡ int_at 1) ⊎ (shape_at l n ≡ no_node))) (sym two.nodes_are) (go n (cases_lt n 1) (cases_lt n 2))
    where
      go : (n : ℕ) → ((n < 1) ⊎ (1 ≤ n)) → ((n < 2) ⊎ (2 ≤ n)) → (shape_at (int_at 0 ∷ int_at 1 ∷ []) n ≡ int_at 0) ⊎ ((shape_at (int_at 0 ∷ int_at 1 ∷ []) n ≡ int_at 1) ⊎ (shape_at (int_at 0 ∷ int_at 1 ∷ []) n ≡ no_node))
      go n (inl lt) b = let first : n ≡ 0 = omega arith in inl (ap (shape_at (int_at 0 ∷ int_at 1 ∷ [])) first)
      go n (inr more) (inl lt) = let next : n ≡ 1 = omega arith in inr (inl (ap (shape_at (int_at 0 ∷ int_at 1 ∷ [])) next))
      go n (inr more) (inr past) = inr (inr (get_or_past (int_at 0 ∷ int_at 1 ∷ []) n no_node past))

  one_word : (n : ℕ) → (shape_at nodes n).words ≡ 1
  one_word n = go (each_is n)
    where
      go : ((shape_at nodes n ≡ int_at 0) ⊎ ((shape_at nodes n ≡ int_at 1) ⊎ (shape_at nodes n ≡ no_node))) → (shape_at nodes n).words ≡ 1
      go (inl e) = ap (λ (s : NodeShape). s.words) e
      go (inr (inl e)) = ap (λ (s : NodeShape). s.words) e
      go (inr (inr e)) = ap (λ (s : NodeShape). s.words) e

  no_types : (n : ℕ) → IsOfTypes (shape_at nodes n).kind → ⊥
  no_types n h = go (each_is n)
    where
      go : ((shape_at nodes n ≡ int_at 0) ⊎ ((shape_at nodes n ≡ int_at 1) ⊎ (shape_at nodes n ≡ no_node))) → ⊥
      go (inl e) = subst (λ (k : NodeKind). IsOfTypes k) (ap (λ (s : NodeShape). s.kind) e) h
      go (inr (inl e)) = subst (λ (k : NodeKind). IsOfTypes k) (ap (λ (s : NodeShape). s.kind) e) h
      go (inr (inr e)) = subst (λ (k : NodeKind). IsOfTypes k) (ap (λ (s : NodeShape). s.kind) e) h

  no_mask : (u k : ℕ) → words_of (slice_index_or side.masks u []) k ≡ 0
  no_mask u k = ap (λ (l : List ℕ). words_of l k) (ap (λ (m : List (List ℕ)). slice_index_or m u []) two.no_masks ∙ get_or_past [] u [] (omega arith)) ∙ get_or_past [] k 0 (omega arith)

  pub two_are_shaped : AreShaped (tables_of nodes 0 side)
  two_are_shaped = record {
    token = λ n e. one_word n.0;
    int = λ n e. one_word n.0;
    long = λ n e. one_word n.0;
    links = λ n e. omega (arith, one_word n.0);
    types = λ n h. absurd (no_types n.0 h);
    masks = λ u. record { each = λ k. omega (arith, no_mask u k) };
  }

  pub two_have_words : all_words nodes ≡ 2
  two_have_words = ap all_words two.nodes_are

  pub second_has_a_word : (shape_at nodes 1).words ≡ 1
  second_has_a_word = one_word 1

  -- an inequality of the second, under the guard that the first isn't empty
  pub second_fits : (value : ValueOp NodeId) → FitsSecond nodes side value → Fits (tables_of nodes 0 side) (record { target = second; guard = NonEmpty (record { 0 = 0 }); value = value })
  second_fits value f = subst (λ (l : List NodeShape). FitsSecond l side value → Fits (tables_of l 0 side) (record { target = second; guard = NonEmpty (record { 0 = 0 }); value = value })) (sym two.nodes_are)
      (λ g. record { guard = tt; value = g.kinds; guard_there = refl; value_there = g.there; target_there = refl }) f
