-- Elements whose nodes stand one behind another.
use Rattle.std.proofs.Common.{◌≡◌, ℕ, zero, suc, ◌+◌, ◌<◌, ◌≤◌, List, [], ◌∷◌, ◌++◌, length, map, take, get_or, refl, sym, ap, subst, ◌∙◌, arith, inl, inr, ◌⊎◌}
use Rattle.std.specs.List.{sum_by}
use Rattle.std.proofs.lemmas.Bool.{cases_lt}
use Rattle.std.proofs.lemmas.List.{get_or_append_left, get_or_push, length_push, take-append-le, take_at, take-map}
use Rattle.std.proofs.lemmas.List.Sums.{sum_by-cons, sum_by_push}
use Rattle.wf_nodes.specs.Numbering.{before}
use Rattle.wf_nodes.specs.Tables.{ArePlaced}

module _ {P : Type 0} (begins count : P → ℕ) where
  pub placed_none : (first : ℕ) → ArePlaced begins count first [] first
  placed_none first = record { each = λ i d l. absurd (omega (arith, l)); next_is = omega arith }

  -- one element more
  pub placed_on : (first next : ℕ) (places : List P) (p : P) → begins p ≡ next → ArePlaced begins count first places next → ArePlaced begins count first (places ++ p ∷ []) (next + count p)
  placed_on first next places p e h = record { each = λ i d l. at i d l (cases_lt i (length places)); next_is = omega (arith, h.next_is, sum_by_push count places p) } where
    at : (i : ℕ) (d : P) → i < length (places ++ p ∷ []) → ((i < length places) ⊎ (length places ≤ i)) → begins (get_or (places ++ p ∷ []) i d) ≡ first + before count i (places ++ p ∷ [])
    at i d l (inl m) = ap begins (get_or_append_left places (p ∷ []) d i m) ∙ h.each i d m ∙ ap (λ (xs : List P). first + sum_by count xs) (sym (take-append-le i places (p ∷ []) (omega (arith, m))))
    at i d l (inr m) =
        let same : length places ≡ i = omega (arith, l, m, length_push places p) in
        ap begins (get_or_push places p d i same) ∙ e ∙ h.next_is ∙ ap (λ (xs : List P). first + sum_by count xs) (sym (take_at places (p ∷ []) i same))

-- what holds of each of the first elements, and of one more
pub each_on : {P : Type 0} (Q : ℕ → P → Type 0) (d : P) (places : List P) (p : P) (n : ℕ) → length places ≡ n → Q n p → ((m : ℕ) → m < n → Q m (get_or places m d)) → (m : ℕ) → m < n + 1 → Q m (get_or (places ++ p ∷ []) m d)
each_on {P} Q d places p n e q h m l = at (cases_lt m n) where
  at : ((m < n) ⊎ (n ≤ m)) → Q m (get_or (places ++ p ∷ []) m d)
  at (inl k) = subst (Q m) (sym (get_or_append_left places (p ∷ []) d m (omega (arith, e, k)))) (h m k)
  at (inr k) =
      let same : m ≡ n = omega (arith, l, k) in
      subst (λ i. Q i (get_or (places ++ p ∷ []) i d)) (sym same) (subst (Q n) (sym (get_or_push places p d n e)) q)

-- ---- the same of the elements as they are seen

pub get_seen : {A B : Type 0} (f : A → B) (xs : List A) (i : ℕ) (d : A) → get_or (map f xs) i (f d) ≡ f (get_or xs i d)
get_seen f [] i d = refl
get_seen f (x ∷ xs) zero d = refl
get_seen f (x ∷ xs) (suc i) d = get_seen f xs i d

pub sum_seen : {A B : Type 0} (f : A → B) (count : B → ℕ) (xs : List A) → sum_by count (map f xs) ≡ sum_by (λ x. count (f x)) xs
sum_seen f count [] = refl
sum_seen f count (x ∷ xs) = omega (arith, sum_by-cons count (f x) (map f xs), sum_by-cons (λ x. count (f x)) x xs, sum_seen f count xs)

pub before_seen : {A B : Type 0} (f : A → B) (count : B → ℕ) (i : ℕ) (xs : List A) → before count i (map f xs) ≡ before (λ x. count (f x)) i xs
before_seen f count i xs = ap (sum_by count) (take-map f i xs) ∙ sum_seen f count (take i xs)
