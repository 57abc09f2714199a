-- Members with their keys: the list before and after it is sorted.
use Rattle.std.proofs.Common.{◌≡◌, ℕ, zero, suc, ◌+◌, ◌<◌, ◌≤◌, false, List, [], ◌∷◌, ◌++◌, length, get_or, map, take, Some, Ordering, refl, sym, ap, subst, ◌∙◌, arith, inl, inr, ◌⊎◌, IsPermutation}
use Rattle.std.specs.Prelude.{slice_get, All, option_map}
use Rattle.std.specs.Cmp.{IsTotalOrder}
use Rattle.std.specs.List.Sorted.{IsSorted}
use Rattle.std.specs.Ordering.{ordering_then, is_lt}
use Rattle.std.specs.declared.cmp.Ordering.TheVariants.{Less, Equal, Greater}
use Rattle.std.proofs.lemmas.Cmp.{nat_list_cmp_total, then_total, on_total}
use Rattle.std.proofs.lemmas.List.{map-append, length-map, take_more, take_all, get_or-map, length_push}
use Rattle.std.proofs.lemmas.List.Elements.{All-get_or}
use Rattle.std.proofs.lemmas.List.Sorted.{IsPermutation-map, All-permutation}
use Rattle.std.proofs.lemmas.Option.{slice_get_within, slice_get-get_or, get_or_from_slice_get, slice_get-map}
use Rattle.wf_grammar.specs.ClassFile.{Key}
use Rattle.wf_classes.specs.declared.members.Keyed.{Keyed}
use Rattle.wf_classes.specs.Members.{key_cmp}
use Rattle.wf_classes.specs.KeyedLists.{keyed_key, IsKeyedList}

pub key_cmp_total : IsTotalOrder key_cmp
key_cmp_total = then_total (on_total (λ (k : Key). k.0) nat_list_cmp_total) (on_total (λ (k : Key). k.1) nat_list_cmp_total)

-- an element of a list that was pushed on
pub get_push : {X : Type 0} (xs : List X) (y : X) (p : ℕ) (z : X) → slice_get (xs ++ y ∷ []) p ≡ Some z → (slice_get xs p ≡ Some z) ⊎ ((p ≡ length xs) × (y ≡ z))
get_push [] y zero z e = inr (refl, cc)
get_push [] y (suc p) z e = absurd cc
get_push (x ∷ xs) y zero z e = inl e
get_push (x ∷ xs) y (suc p) z e = elim (get_push xs y p z e) [ inl a ↦ inl a | inr b ↦ inr (ap (λ n. suc n) b.0, b.1) ]

-- the first n members, each at its place
pub record AreKeyed (keys : List Key) (n : ℕ) (keyed : List Keyed) : Type 0 where
  pub front : map keyed_key keyed ≡ take n keys
  pub count : length keyed ≡ n
  pub index : (x : ℕ) (k : Keyed) → slice_get keyed x ≡ Some k → k.index ≡ x

pub keyed_none : (keys : List Key) → AreKeyed keys 0 []
keyed_none keys = record { front = refl; count = refl; index = λ x k e. absurd cc }

pub keyed_more : (keys : List Key) (n : ℕ) (keyed : List Keyed) (k : Keyed) → slice_get keys n ≡ Some (keyed_key k) → k.index ≡ n → AreKeyed keys n keyed → AreKeyed keys (n + 1) (keyed ++ k ∷ [])
keyed_more keys n keyed k e i h =
    let l = slice_get_within keys n (keyed_key k) e in
    record {
      front = map-append keyed_key keyed (k ∷ []) ∙ ap (λ xs. xs ++ keyed_key k ∷ []) h.front ∙ sym (take_more keys n (keyed_key k) l ∙ ap (λ x. take n keys ++ x ∷ []) (get_or_from_slice_get keys n (keyed_key k) (keyed_key k) e));
      count = length_push keyed k ∙ ap (λ m. m + 1) h.count;
      index = λ x j f. elim (get_push keyed k x j f) [ inl a ↦ h.index x j a | inr b ↦ sym (ap (λ (q : Keyed). q.index) b.1) ∙ i ∙ sym h.count ∙ sym b.0 ];
    }

-- sorted by all of it, it is sorted by the keys
pub keyed_sorted : (keys : List Key) (n : ℕ) (keyed sorted : List Keyed) (cmp : Keyed → Keyed → Ordering) → length keys ≤ n → ((a b : Keyed) → key_cmp (keyed_key a) (keyed_key b) ≡ Less → cmp a b ≡ Less) → AreKeyed keys n keyed → IsPermutation keyed sorted → IsSorted cmp sorted → IsKeyedList keys sorted
keyed_sorted keys n keyed sorted cmp all finer h moved up =
    let whole : map keyed_key keyed ≡ keys = h.front ∙ take_all n keys all in
    let each : All (λ (k : Keyed). slice_get keys k.index ≡ Some (keyed_key k)) keyed = λ x d l.
    (let k = get_or keyed x d in
    let e = slice_get-get_or keyed x d l in
    ap (slice_get keys) (h.index x k e) ∙ ap (λ xs. slice_get xs x) (sym whole) ∙ slice_get-map keyed_key keyed x ∙ ap (option_map keyed_key) e) in
    let size = length-map sorted keyed_key in
    record {
      each = λ x k e. (let a = All-get_or (λ (k : Keyed). slice_get keys k.index ≡ Some (keyed_key k)) sorted x k (slice_get_within sorted x k e) (All-permutation (λ (k : Keyed). slice_get keys k.index ≡ Some (keyed_key k)) keyed sorted moved each) in
          subst (λ (j : Keyed). slice_get keys j.index ≡ Some (keyed_key j)) (get_or_from_slice_get sorted x k k e) a);
      moved = subst (λ (xs : List Key). IsPermutation xs (map keyed_key sorted)) whole (IsPermutation-map keyed_key keyed sorted moved);
      in_order = λ k d low l. in_order sorted k d (omega (arith, size)) up;
    } where
      in_order : (sorted : List Keyed) (k : ℕ) (d : Key) → k + 1 < length sorted → IsSorted cmp sorted → is_lt (key_cmp (get_or (map keyed_key sorted) (k + 1) d) (get_or (map keyed_key sorted) k d)) ≡ false
      in_order [] k d l up = absurd (omega arith)
      in_order (s ∷ ss) k d l up =
          let b = get_or (s ∷ ss) (k + 1) s in
          let a = get_or (s ∷ ss) k s in
          ap (λ x. is_lt (key_cmp x (get_or (map keyed_key (s ∷ ss)) k d))) (get_or-map keyed_key (s ∷ ss) (k + 1) s d l)
          ∙ ap (λ x. is_lt (key_cmp (keyed_key b) x)) (get_or-map keyed_key (s ∷ ss) k s d (omega arith))
          ∙ not_less (key_cmp (keyed_key b) (keyed_key a)) refl (up k s (omega arith) l)
        where
          not_less : (o : Ordering) → key_cmp (keyed_key (get_or (s ∷ ss) (k + 1) s)) (keyed_key (get_or (s ∷ ss) k s)) ≡ o → is_lt (cmp (get_or (s ∷ ss) (k + 1) s) (get_or (s ∷ ss) k s)) ≡ false → is_lt o ≡ false
          not_less Less e f = sym (ap is_lt (finer _ _ e)) ∙ f
          not_less Equal e f = refl
          not_less Greater e f = refl

-- what comes before by the first two parts comes before by all three
pub before_by_two : (x y z : Ordering) → ordering_then x y ≡ Less → ordering_then x (ordering_then y z) ≡ Less
before_by_two Less y z e = refl
before_by_two Equal Less z e = refl
before_by_two Equal Equal z e = absurd cc
before_by_two Equal Greater z e = absurd cc
before_by_two Greater y z e = absurd cc
