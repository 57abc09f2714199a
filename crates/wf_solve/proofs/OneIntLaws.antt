-- The smallest system fits, and its empty list of inequalities covers it.
use Rattle.std.proofs.Common.{◌≡◌, ℕ, ◌<◌, ◌≤◌, ◌⊎◌, inl, inr, List, [], ◌∷◌, slice_index_or, sym, ap, ◌∙◌, subst, arith}
use Rattle.std.proofs.lemmas.Bool.{cases_lt}
use Rattle.std.proofs.lemmas.List.{get_or_past}
use Rattle.wf_base.specs.declared.ids.NodeId.{NodeId}
use Rattle.wf_lattice.specs.Words.{words_of}
use Rattle.wf_lattice.specs.declared.kind.NodeKind.{NodeKind}
use Rattle.wf_system.specs.declared.node_shape.NodeShape.{NodeShape}
use Rattle.wf_system.specs.declared.side.Side.{Side}
use Rattle.wf_system.specs.Shapes.{no_node, shape_at, all_words}
use Rattle.wf_system.specs.Fits.{IsOfTypes}
use Rattle.wf_system.specs.Bodies.{AreReaders, SystemFits}
use Rattle.wf_solve.specs.Work.{Work}
use Rattle.wf_solve.specs.Solving.{IsCovered}
use Rattle.wf_solve.specs.OneInt.{int_node, no_rows, IsOneInt}

module _ (nodes : List NodeShape) (side : Side) (one : IsOneInt nodes side) where
  -- each node is that int, or isn't there
  each_is : (n : ℕ) → (shape_at nodes n ≡ int_node) ⊎ (shape_at nodes n ≡ no_node)
  each_is n = subst (λ (l : List NodeShape). (shape_at l n ≡ int_node) ⊎ (shape_at l n ≡ no_node)) (sym one.nodes_are) (go n (cases_lt n 1))
    where
      go : (n : ℕ) → ((n < 1) ⊎ (1 ≤ n)) → (shape_at (int_node ∷ []) n ≡ int_node) ⊎ (shape_at (int_node ∷ []) n ≡ no_node)
      go n (inl lt) = let first : n ≡ 0 = omega arith in inl (ap (shape_at (int_node ∷ [])) first)
      go n (inr past) = inr (get_or_past (int_node ∷ []) n no_node past)

  one_word : (n : ℕ) → (shape_at nodes n).words ≡ 1
  one_word n = go (each_is n)
    where
      go : ((shape_at nodes n ≡ int_node) ⊎ (shape_at nodes n ≡ no_node)) → (shape_at nodes n).words ≡ 1
      go (inl e) = ap (λ (s : NodeShape). s.words) e
      go (inr e) = ap (λ (s : NodeShape). s.words) e

  no_types : (n : ℕ) → IsOfTypes (shape_at nodes n).kind → ⊥
  no_types n h = go (each_is n)
    where
      go : ((shape_at nodes n ≡ int_node) ⊎ (shape_at nodes n ≡ no_node)) → ⊥
      go (inl e) = subst (λ (k : NodeKind). IsOfTypes k) (ap (λ (s : NodeShape). s.kind) e) h
      go (inr e) = subst (λ (k : NodeKind). IsOfTypes k) (ap (λ (s : NodeShape). s.kind) e) h

  no_mask : (u k : ℕ) → words_of (slice_index_or side.masks u []) k ≡ 0
  no_mask u k = ap (λ (l : List ℕ). words_of l k) (ap (λ (m : List (List ℕ)). slice_index_or m u []) one.no_masks ∙ get_or_past [] u [] (omega arith)) ∙ get_or_past [] k 0 (omega arith)

  pub one_int_fits : SystemFits (no_rows nodes side)
  one_int_fits = record {
    shaped = record {
      token = λ n e. one_word n.0;
      int = λ n e. one_word n.0;
      long = λ n e. one_word n.0;
      links = λ n e. omega (arith, one_word n.0);
      types = λ n h. absurd (no_types n.0 h);
      masks = λ u. record { each = λ k. omega (arith, no_mask u k) };
    };
    each = λ q there. absurd (omega (arith, there.1));
    seeds_apart = λ q there. absurd (omega (arith, there.1));
  }

  pub one_int_has_a_word : all_words nodes ≡ 1
  one_int_has_a_word = ap all_words one.nodes_are

  pub one_int_is_covered : (words : List ℕ) (work : Work) → IsCovered (no_rows nodes side) words work
  one_int_is_covered words work = record { each = λ q there. absurd (omega (arith, there.1)) }

  pub no_readers : (node : NodeId) → AreReaders (no_rows nodes side) node []
  no_readers node = record { all = λ q there read. absurd (omega (arith, there.1)); only = λ q there. absurd (omega (arith, there.1)) }
