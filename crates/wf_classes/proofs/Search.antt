-- Binary search in a list whose keys ascend.
use Rattle.std.proofs.Common.{◌≡◌, ℕ, ◌+◌, ◌<◌, Bool, false, cond, List, [], ◌∷◌, length, get_or, map, Some, None, Ordering, refl, sym, ap, ◌∙◌, arith, inl, inr, IsPermutation}
use Rattle.std.specs.Prelude.{position}
use Rattle.std.specs.Cmp.{IsTotalOrder}
use Rattle.std.specs.List.{HoldsAt, IsDistinct, position_or_len}
use Rattle.std.specs.List.Sorted.{IsStrictlySortedBy, IsSortedBy, IsNonDecreasingBy, IsPartitionPoint}
use Rattle.std.specs.Ordering.{is_lt, is_eq, ordering_index, ordering_reverse, eq_by_cmp}
use Rattle.std.specs.declared.cmp.Ordering.TheVariants.{Less, Equal, Greater}
use Rattle.std.proofs.lemmas.Bool.{lt-ltb, le-ltb, cases_lt}
use Rattle.std.proofs.lemmas.Cmp.{alike_right, eq_by_cmp_equiv}
use Rattle.std.proofs.lemmas.List.{get_or-map, length-map}
use Rattle.std.proofs.lemmas.List.Sorted.{searchable_from_sorted, IsPermutation-map}
use Rattle.std.proofs.lemmas.List.Sums.{position_or_len_is}
use Rattle.std.proofs.lemmas.Map.Keys.{Less-from_sorted, sorted_from_all_adjacent, IsDistinct-IsPermutation, apart_from_distinct}

-- some element of a list that has one
some_element : {X : Type 0} (xs : List X) (i : ℕ) → i < length xs → X
some_element [] i l = absurd (omega arith)
some_element (x ∷ xs) i l = x

less-reverse : (a b : Ordering) → a ≡ ordering_reverse b → b ≡ Less → is_lt a ≡ false
less-reverse a b e l = rw (e, l) refl

only_less : (a b : Ordering) → a ≡ ordering_reverse b → is_eq a ≡ false → is_lt b ≡ false → a ≡ Less
only_less Less b e n u = refl
only_less Equal b e n u = absurd cc
only_less Greater Less e n u = absurd cc
only_less Greater Equal e n u = absurd cc
only_less Greater Greater e n u = absurd cc

pub sorted_from_none : {K : Type 0} (R : K → K → Ordering) → IsStrictlySortedBy R []
unfolding IsStrictlySortedBy
sorted_from_none R = tt

module _ {X K : Type 0} {R : K → K → Ordering} (o : IsTotalOrder R) (key : X → K) where
  -- keys that ascend are in the order that a search wants
  pub sorted_keys : (xs : List X) → IsStrictlySortedBy R (map key xs) → IsSortedBy (λ a b. is_lt (R (key a) (key b))) xs
  sorted_keys xs up k d low high =
      let size = length-map xs key in
      let less : R (key (get_or xs k d)) (key (get_or xs (k + 1) d)) ≡ Less =
      ap (λ z. R z (key (get_or xs (k + 1) d))) (sym (get_or-map key xs k d (key d) (omega arith)))
      ∙ ap (R (get_or (map key xs) k (key d))) (sym (get_or-map key xs (k + 1) d (key d) (omega arith)))
      ∙ Less-from_sorted R (map key xs) k (k + 1) (key d) up (omega arith) (omega (arith, size)) in
      less-reverse _ _ (o.antisymm (key (get_or xs (k + 1) d)) (key (get_or xs k d))) less

  -- what the search finds is the place
  pub found_place : (xs : List X) (k : K) (i : ℕ) (test : X → Bool) → ((x : X) → test x ≡ is_eq (R (key x) k)) → IsStrictlySortedBy R (map key xs) → i < length xs → HoldsAt (λ y. R (key y) k ≡ Equal) xs i → position test xs ≡ Some i
  found_place xs k i test says up l here =
      let d = some_element xs i l in
      let size = length-map xs key in
      let at : (j : ℕ) → j < i → test (get_or xs j d) ≡ false = λ j m.
      let less : R (key (get_or xs j d)) (key (get_or xs i d)) ≡ Less =
      ap (λ z. R z (key (get_or xs i d))) (sym (get_or-map key xs j d (key d) (omega arith)))
      ∙ ap (R (get_or (map key xs) j (key d))) (sym (get_or-map key xs i d (key d) l))
      ∙ Less-from_sorted R (map key xs) j i (key d) up m (omega (arith, size)) in
      says (get_or xs j d) ∙ ap is_eq (sym (alike_right o (key (get_or xs i d)) k (key (get_or xs j d)) (here d)) ∙ less) in
      let place : position_or_len test xs ≡ i = position_or_len_is test xs i d (omega arith) at (λ m. says (get_or xs i d) ∙ ap is_eq (here d)) in
      rw place (ap (λ t. cond t (Some i) None) (lt-ltb i (length xs) l))

  -- where it finds none there is none
  pub no_place : (xs : List X) (k : K) (i : ℕ) (test : X → Bool) → ((x : X) → test x ≡ is_eq (R (key x) k)) → (IsNonDecreasingBy (λ y. ordering_index (R (key y) k)) xs → IsPartitionPoint (λ y. R (key y) k ≡ Less) (λ y. R (key y) k ≡ Greater) xs i) → IsStrictlySortedBy R (map key xs) → position test xs ≡ None
  no_place [] k i test says split up = refl
  no_place (y ∷ ys) k i test says split up =
      let xs = y ∷ ys in
      let point = split (searchable_from_sorted o key xs k (sorted_keys xs up)) in
      let all : (j : ℕ) → j < length xs → test (get_or xs j y) ≡ false = λ j m. elim (cases_lt j i) [
        | inl b ↦ says (get_or xs j y) ∙ ap is_eq (point.0 j y (omega arith) b)
        | inr a ↦ says (get_or xs j y) ∙ ap is_eq (point.1 j y a m)
      ] in
      let place : position_or_len test xs ≡ length xs = position_or_len_is test xs (length xs) y (omega arith) all (λ m. absurd (omega arith)) in
      rw place (ap (λ t. cond t (Some (length xs)) None) (le-ltb (length xs) (length xs) (omega arith)))

  -- a sort of elements whose keys differ leaves keys that ascend
  pub ascending_from_sort : (xs ys : List X) → IsPermutation xs ys → IsDistinct (eq_by_cmp R) (map key xs) → IsSortedBy (λ a b. is_lt (R (key a) (key b))) ys → IsStrictlySortedBy R (map key ys)
  ascending_from_sort xs [] moved apart sorted = sorted_from_none R
  ascending_from_sort xs (y ∷ ys) moved apart sorted =
      let zs = y ∷ ys in
      let size = length-map zs key in
      let keys = IsDistinct-IsPermutation (eq_by_cmp R) (λ a b. (eq_by_cmp_equiv o).symm a b) (map key xs) (map key zs) (IsPermutation-map key xs zs moved) apart in
      sorted_from_all_adjacent o (map key zs) (key y) (λ k l.
      let a = get_or (map key zs) k (key y) in
      let b = get_or (map key zs) (k + 1) (key y) in
      let apart : is_eq (R a b) ≡ false = apart_from_distinct (eq_by_cmp R) (map key zs) k (k + 1) (key y) keys (omega arith) l in
      let up : is_lt (R b a) ≡ false =
      ap (λ z. is_lt (R z a)) (get_or-map key zs (k + 1) y (key y) (omega (arith, size)))
      ∙ ap (λ z. is_lt (R (key (get_or zs (k + 1) y)) z)) (get_or-map key zs k y (key y) (omega (arith, size)))
      ∙ sorted k y (omega arith) (omega (arith, size)) in
      only_less (R a b) (R b a) (o.antisymm a b) apart up)
