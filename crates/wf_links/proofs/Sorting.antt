-- Methods in the order of their numbers, each once.
use Rattle.std.proofs.Common.{◌≡◌, ℕ, ◌<◌, Bool, true, zero, suc, List, [], ◌∷◌, length, refl, true≢false, option_map, map, get_or, Contains, Some, sym, ap, subst, ◌∙◌, arith, inl, inr, IsPermutation}
use Rattle.std.specs.Prelude.{slice_get}
use Rattle.std.specs.Cmp.{IsTotalOrder, IsEquivalence, on_total, nat_cmp_total, ranked, below_irrefl, eq_by_cmp_equiv}
use Rattle.std.specs.List.{HoldsAt, dedup}
use Rattle.std.specs.List.Sorted.{IsStrictlySortedBy, IsNonDecreasingBy, IsPartitionPoint, IsSorted}
use Rattle.std.specs.Ordering.{ordering_index, eq_by_cmp, is_eq}
use Rattle.std.specs.declared.cmp.Ordering.{Ordering}
use Rattle.std.specs.declared.cmp.Ordering.TheVariants.{Less, Equal, Greater}
use Rattle.std.proofs.lemmas.Bool.{cases_lt}
use Rattle.std.proofs.lemmas.List.{map-id}
use Rattle.std.proofs.lemmas.Option.{slice_get-get_or, slice_get-map, slice_get_within, get_or_from_slice_get}
use Rattle.std.proofs.lemmas.List.Sorted.{searchable_from_sorted, Contains-permutation, IsPermutation-sym}
use Rattle.std.proofs.lemmas.List.Kept.{IsStrictlySortedBy-dedup, Contains-dedup, Contains-from_dedup}
use Rattle.wf_base.specs.declared.ids.MethodId.{MethodId}
use Rattle.wf_classes.proofs.Search.{sorted_keys}
use Rattle.wf_links.specs.declared.picking.Chosen.{Chosen}
use Rattle.wf_links.specs.Candidates.{AreAscending, AreMethodsOf, method_cmp}

pub method_total : IsTotalOrder method_cmp
method_total = on_total (λ (m : MethodId). m.0) nat_cmp_total

-- methods that compare as equal are one
pub method_is : (a b : MethodId) → method_cmp a b ≡ Equal → a ≡ b
method_is a b e = ap (λ (n : ℕ). record { 0 = n }) (ranked a.0 b.0 Equal (sym e))

-- a method that is there is found
pub not_missing : (list : List MethodId) (m : MethodId) (i : ℕ) → AreAscending list → Contains list m
    → (IsNonDecreasingBy (λ y. ordering_index (method_cmp y m)) list → IsPartitionPoint (λ y. method_cmp y m ≡ Less) (λ y. method_cmp y m ≡ Greater) list i) → ⊥
not_missing list m i up at split = elim (cases_lt at.0 i) [
  | inl b ↦ less (point.0 at.0 m (omega arith) b)
  | inr a ↦ greater (point.1 at.0 m a at.1)
] where
  point : IsPartitionPoint (λ y. method_cmp y m ≡ Less) (λ y. method_cmp y m ≡ Greater) list i
  point = split (searchable_from_sorted method_total (λ (x : MethodId). x) list m (sorted_keys method_total (λ (x : MethodId). x) list (subst (IsStrictlySortedBy method_cmp) (sym (map-id list)) up)))

  less : method_cmp (get_or list at.0 m) m ≡ Less → ⊥
  less e = below_irrefl m.0 (ranked m.0 m.0 Less (sym (ap (λ x. method_cmp x m) (sym at.2) ∙ e)))

  greater : method_cmp (get_or list at.0 m) m ≡ Greater → ⊥
  greater e = below_irrefl m.0 (ranked m.0 m.0 Greater (sym (ap (λ x. method_cmp x m) (sym at.2) ∙ e)))

same_is : (a b : MethodId) → eq_by_cmp method_cmp a b ≡ true → method_cmp a b ≡ Equal
same_is a b e = at (method_cmp a b) refl where
  at : (o : Ordering) → method_cmp a b ≡ o → method_cmp a b ≡ Equal
  at Equal f = f
  at Less f = absurd (true≢false (sym e ∙ ap is_eq f))
  at Greater f = absurd (true≢false (sym e ∙ ap is_eq f))

-- the method of a choice is among the methods of all
chosen_has : (chosen : List Chosen) (i : ℕ) (c : Chosen) → slice_get chosen i ≡ Some c → Contains (map (λ (x : Chosen). x.method) chosen) c.method
chosen_has chosen i c e =
    let there : slice_get (map (λ (x : Chosen). x.method) chosen) i ≡ Some c.method = slice_get-map (λ (x : Chosen). x.method) chosen i ∙ ap (option_map (λ (x : Chosen). x.method)) e in
    (i, slice_get_within (map (λ (x : Chosen). x.method) chosen) i c.method there, get_or_from_slice_get (map (λ (x : Chosen). x.method) chosen) i c.method c.method there)

chosen_from : (chosen : List Chosen) (m : MethodId) → Contains (map (λ (x : Chosen). x.method) chosen) m → (i : ℕ) × (c : Chosen) × (slice_get chosen i ≡ Some c) × (c.method ≡ m)
chosen_from [] m at = absurd (let l = at.1 in omega arith)
chosen_from (c ∷ cs) m (zero, l, at) = (0, c, refl, at)
chosen_from (c ∷ cs) m (suc i, l, at) =
    let rest = chosen_from cs m (i, omega (arith, l), at) in
    (suc rest.0, rest.1, rest.2, rest.3)

-- the place that is found
pub found_is : (list : List MethodId) (m : MethodId) (i : ℕ) → i < length list → HoldsAt (λ y. method_cmp y m ≡ Equal) list i → slice_get list i ≡ Some m
found_is list m i l here = slice_get-get_or list i m l ∙ ap Some (method_is (get_or list i m) m (here m))

-- methods that were sorted and rid of doubles
pub methods_sorted : {E : MethodId → MethodId → Bool} (ties : (a b : MethodId) → E a b ≡ eq_by_cmp method_cmp a b) (chosen : List Chosen) (moved : List MethodId)
    → IsPermutation (map (λ c. c.method) chosen) moved → IsSorted method_cmp moved → AreMethodsOf chosen (dedup E moved)
methods_sorted {E} ties chosen moved p s =
    let e : IsEquivalence E = subst IsEquivalence (λ i x y. sym (ties x y) i) (eq_by_cmp_equiv method_total) in
    let given = map (λ (c : Chosen). c.method) chosen in
    record {
      ascending = IsStrictlySortedBy-dedup method_total ties moved s;
      all = λ i c there. Contains-dedup e (λ a b same. method_is a b (same_is a b (sym (ties a b) ∙ same))) moved c.method (Contains-permutation given moved c.method p (chosen_has chosen i c there));
      only = λ m h. chosen_from chosen m (Contains-permutation moved given m (IsPermutation-sym given moved p) (Contains-from_dedup E moved m h));
    }
