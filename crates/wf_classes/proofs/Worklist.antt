-- The worklist: waits for one class, one wait that is over, and what is left at the end.
use Rattle.std.proofs.Common.{◌≡◌, ◌≢◌, ℕ, zero, suc, ◌+◌, ◌<◌, ◌≤◌, Bool, true, false, cond, not, ◌&&◌, ◌||◌, eqb, ltb, leb, List, [], ◌∷◌, ◌++◌, length, get_or, set, take, drop, filter, count_by, Some, refl, sym, ap, subst, ◌∙◌, arith, inl, inr, ◌⊎◌}
use Rattle.std.specs.Prelude.{slice_get, All}
use Rattle.std.specs.List.{AllWithin}
use Rattle.std.specs.List.Sorted.{IsPartitionPoint}
use Rattle.std.proofs.lemmas.Bool.{cases_lt, cases_eq, cases_Bool, eqb-true, ltb-true, ltb-false, leb-true, leb-false, eq-eqb, ne_eqb, or_cases, both_ways, and_from, and_right, false≢true}
use Rattle.std.proofs.lemmas.List.{append-nil, get_or_append_left, get_or_push, length_push, get_or-set_same, get_or-set_other, length-set, take-append-le, take_all, take-append-drop, get_or-take, get_or-drop, length-take, length-drop, take_at, take_more}
use Rattle.std.proofs.lemmas.List.Elements.{All-head, All-tail, filter-append}
use Rattle.std.proofs.lemmas.List.Sums.{sum_by-cons, sum_by-set, count_by_more_yes, count_by_more_no}
use Rattle.wf_classes.specs.declared.waits.Wait.{Wait}
use Rattle.wf_classes.specs.Closing.{is_in, count_of, left_of, waits_for, AreInside, AreCounted, ListsZeros, IsReleasing, IsReleased}

-- what a count gains by an element
abbrev one_if : Bool → ℕ
one_if b = cond b 1 0

-- ---- membership

or_left : (a b : Bool) → a ≡ true → (a || b) ≡ true
or_left true b e = refl
or_left false b e = absurd cc

or_right : (a b : Bool) → b ≡ true → (a || b) ≡ true
or_right true b e = refl
or_right false b e = e

pub is_in_left : (xs ys : List ℕ) (x : ℕ) → is_in xs x ≡ true → is_in (xs ++ ys) x ≡ true
is_in_left [] ys x h = absurd cc
is_in_left (y ∷ xs) ys x h =
    elim (or_cases (eqb y x) (is_in xs x) h) [
      | inl e ↦ or_left (eqb y x) (is_in (xs ++ ys) x) e
      | inr r ↦ or_right (eqb y x) (is_in (xs ++ ys) x) (is_in_left xs ys x r)
    ]

pub is_in_last : (xs : List ℕ) (x : ℕ) → is_in (xs ++ x ∷ []) x ≡ true
is_in_last [] x = or_left (eqb x x) false (eq-eqb x x refl)
is_in_last (y ∷ xs) x = or_right (eqb y x) (is_in (xs ++ x ∷ []) x) (is_in_last xs x)

pub is_in_at : (xs : List ℕ) (p : ℕ) → p < length xs → is_in xs (get_or xs p 0) ≡ true
is_in_at [] p l = absurd (omega arith)
is_in_at (y ∷ xs) zero l = or_left (eqb y y) (is_in xs y) (eq-eqb y y refl)
is_in_at (y ∷ xs) (suc p) l = or_right (eqb y (get_or xs p 0)) (is_in xs (get_or xs p 0)) (is_in_at xs p (omega arith))

pub record At (xs : List ℕ) (x : ℕ) : Type 0 where
  pub place : ℕ
  pub within : place < length xs
  pub is : get_or xs place 0 ≡ x

pub place_of : (xs : List ℕ) (x : ℕ) → is_in xs x ≡ true → At xs x
place_of [] x h = absurd cc
place_of (y ∷ xs) x h =
    elim (or_cases (eqb y x) (is_in xs x) h) [
      | inl e ↦ record { place = 0; within = omega arith; is = eqb-true y x e }
      | inr r ↦ let a = place_of xs x r in record { place = suc a.place; within = omega arith; is = a.is }
    ]

pub not_in : (xs : List ℕ) (x : ℕ) → ((p : ℕ) → p < length xs → get_or xs p 0 ≢ x) → is_in xs x ≡ false
not_in xs x away = elim (cases_Bool (is_in xs x)) [ inl t ↦ (let a = place_of xs x t in absurd (away a.place a.within a.is)) | inr f ↦ f ]

-- an element of a list that was pushed on
pub at_push : (xs : List ℕ) (y p : ℕ) → p < length (xs ++ y ∷ []) → ((p < length xs) × (get_or (xs ++ y ∷ []) p 0 ≡ get_or xs p 0)) ⊎ ((p ≡ length xs) × (get_or (xs ++ y ∷ []) p 0 ≡ y))
at_push xs y p l =
    elim (cases_lt p (length xs)) [
      | inl i ↦ inl (i, get_or_append_left xs (y ∷ []) 0 p i)
      | inr o ↦ (let e : p ≡ length xs = omega (arith, length_push xs y) in inr (e, get_or_push xs y 0 p (sym e)))
    ]

-- ---- the waits for one class

none_pass : {X : Type 0} (p : X → Bool) (xs : List X) → All (λ x. p x ≡ false) xs → filter p xs ≡ []
none_pass p [] h = refl
none_pass p (x ∷ xs) h = rw (All-head (λ x. p x ≡ false) x xs h) (none_pass p xs (All-tail (λ x. p x ≡ false) x xs h))

all_pass : {X : Type 0} (p : X → Bool) (xs : List X) → All (λ x. p x ≡ true) xs → filter p xs ≡ xs
all_pass p [] h = refl
all_pass p (x ∷ xs) h = rw (All-head (λ x. p x ≡ true) x xs h) (ap (λ ys. x ∷ ys) (all_pass p xs (All-tail (λ x. p x ≡ true) x xs h)))

within_front : {X : Type 0} (P : X → Type 0) (xs : List X) (i : ℕ) → AllWithin P xs 0 i → All P (take i xs)
within_front P xs i h k d l =
    let short : k < i = omega (arith, length-take i xs) in
    subst P (sym (get_or-take i xs k d short)) (h k d (omega arith) short)

within_back : {X : Type 0} (P : X → Type 0) (xs : List X) (i : ℕ) → AllWithin P xs i (length xs) → All P (drop i xs)
within_back P xs i h k d l = subst P (sym (get_or-drop i xs k d)) (h (i + k) d (omega arith) (omega (arith, length-drop i xs)))

-- of waits in order, those between the first and the last that are for class c are the waits for it
pub waits_between : (waits : List Wait) (c first end : ℕ)
    → IsPartitionPoint (λ (w : Wait). w.above < c) (λ (w : Wait). c ≤ w.above) waits first
    → IsPartitionPoint (λ (w : Wait). w.above ≤ c) (λ (w : Wait). c < w.above) (drop first waits) end
    → take end (drop first waits) ≡ waits_for waits c
waits_between waits c first end low high =
    let p = λ (w : Wait). eqb w.above c in
    let before : filter p (take first waits) ≡ [] =
    none_pass p (take first waits) (λ k d l. ne_eqb _ c (λ e. omega (arith, within_front (λ (w : Wait). w.above < c) waits first low.0 k d l))) in
    let behind : filter p (drop end (drop first waits)) ≡ [] =
    none_pass p (drop end (drop first waits)) (λ k d l. ne_eqb _ c (λ e. omega (arith, within_back (λ (w : Wait). c < w.above) (drop first waits) end high.1 k d l))) in
    let all : filter p (take end (drop first waits)) ≡ take end (drop first waits) =
    all_pass p (take end (drop first waits)) (λ k d l. eq-eqb _ c
    (let short : k < end = omega (arith, length-take end (drop first waits)) in
    let inside : k < length (drop first waits) = omega (arith, length-take end (drop first waits)) in
    let upper = within_front (λ (w : Wait). w.above ≤ c) (drop first waits) end high.0 k d l in
    let lower = within_back (λ (w : Wait). c ≤ w.above) waits first low.1 k d inside in
    let same = get_or-take end (drop first waits) k d short in
    omega (arith, upper, lower, ap (λ (w : Wait). w.above) same))) in
    sym (ap (filter p) (sym (take-append-drop first waits)) ∙ filter-append p (take first waits) (drop first waits)
    ∙ ap (λ ws. ws ++ filter p (drop first waits)) before
    ∙ ap (filter p) (sym (take-append-drop end (drop first waits))) ∙ filter-append p (take end (drop first waits)) (drop end (drop first waits))
    ∙ rw (all, behind) (append-nil (take end (drop first waits))))

pub tests_below : (c : ℕ) (waits : List Wait) (i : ℕ)
    → IsPartitionPoint (λ (w : Wait). ltb w.above c ≡ true) (λ (w : Wait). ltb w.above c ≡ false) waits i
    → IsPartitionPoint (λ (w : Wait). w.above < c) (λ (w : Wait). c ≤ w.above) waits i
tests_below c waits i h = (λ k d l m. ltb-true _ _ (h.0 k d l m), λ k d l m. ltb-false _ _ (h.1 k d l m))

pub tests_upto : (c : ℕ) (waits : List Wait) (i : ℕ)
    → IsPartitionPoint (λ (w : Wait). leb w.above c ≡ true) (λ (w : Wait). leb w.above c ≡ false) waits i
    → IsPartitionPoint (λ (w : Wait). w.above ≤ c) (λ (w : Wait). c < w.above) waits i
tests_upto c waits i h = (λ k d l m. leb-true _ _ (h.0 k d l m), λ k d l m. leb-false _ _ (h.1 k d l m))

-- ---- classes that wait for nothing

pub zeros_none : (waiting : List ℕ) → ListsZeros waiting 0 []
zeros_none waiting = record {
  inside = λ p l. absurd (omega arith);
  zero = λ p l. absurd (omega arith);
  listed = λ i l e. absurd (omega arith);
  apart = λ p q l m e. absurd (omega arith);
  count = refl;
}

pub zeros_more : (waiting : List ℕ) (n : ℕ) (order : List ℕ) → n < length waiting → get_or waiting n 0 ≡ 0 → ListsZeros waiting n order → ListsZeros waiting (n + 1) (order ++ n ∷ [])
zeros_more waiting n order l e h = record {
  inside = λ p m. elim (at_push order n p m) [ inl a ↦ (let i = h.inside p a.0 in rw a.1 (omega arith)) | inr b ↦ rw b.1 (omega arith) ];
  zero = λ p m. elim (at_push order n p m) [ inl a ↦ rw a.1 (h.zero p a.0) | inr b ↦ rw b.1 e ];
  listed = λ i m z. elim (cases_lt i n) [ inl a ↦ is_in_left order (n ∷ []) i (h.listed i a z) | inr b ↦ (let s : i ≡ n = omega arith in subst (λ x. is_in (order ++ n ∷ []) x ≡ true) (sym s) (is_in_last order n)) ];
  apart = λ p q l m. elim (at_push order n q m) [
    | inl b ↦ (let low : p < length order = omega (arith, b.0) in let e = get_or_append_left order (n ∷ []) 0 p low in rw (e, b.1) (h.apart p q l b.0))
    | inr b ↦ (let low : p < length order = omega (arith, b.0) in let e = get_or_append_left order (n ∷ []) 0 p low in let i = h.inside p low in rw (e, b.1) (λ s. omega arith))
  ];
  count = length_push order n ∙ ap (λ k. k + 1) h.count ∙ sym (count_by_more_yes (λ w. eqb w 0) waiting n 0 l (eq-eqb _ 0 e));
}

pub zeros_same : (waiting : List ℕ) (n : ℕ) (order : List ℕ) → n < length waiting → get_or waiting n 0 ≢ 0 → ListsZeros waiting n order → ListsZeros waiting (n + 1) order
zeros_same waiting n order l e h = record {
  inside = λ p m. (let i = h.inside p m in omega arith);
  zero = h.zero;
  listed = λ i m z. elim (cases_lt i n) [ inl a ↦ h.listed i a z | inr b ↦ (let s : i ≡ n = omega arith in absurd (e (subst (λ x. get_or waiting x 0 ≡ 0) s z))) ];
  apart = h.apart;
  count = h.count ∙ sym (count_by_more_no (λ w. eqb w 0) waiting n 0 l (ne_eqb _ 0 e));
}

-- ---- one wait that is over

count_whole : (waiting : List ℕ) → count_by (λ w. eqb w 0) (take (length waiting) waiting) ≡ count_by (λ w. eqb w 0) waiting
count_whole waiting = ap (count_by (λ w. eqb w 0)) (take_all (length waiting) waiting (omega arith))

-- the count of zeros after a write of a number at a place that had none
count_set : (waiting : List ℕ) (b v : ℕ) → b < length waiting → get_or waiting b 0 ≢ 0 → count_by (λ w. eqb w 0) (set waiting b v) ≡ count_by (λ w. eqb w 0) waiting + cond (eqb v 0) 1 0
count_set waiting b v l e =
    let s = sum_by-set (λ w. cond (eqb w 0) 1 0) waiting b v 0 l in
    let z : one_if (eqb (get_or waiting b 0) 0) ≡ 0 = ap one_if (ne_eqb _ 0 e) in
    omega (arith, s, z)

pub zeros_lower : (waiting : List ℕ) (b v : ℕ) (order : List ℕ) → b < length waiting → get_or waiting b 0 ≢ 0 → v ≢ 0 → ListsZeros waiting (length waiting) order → ListsZeros (set waiting b v) (length (set waiting b v)) order
zeros_lower waiting b v order l e n h =
    let size = length-set waiting b v in
    record {
      inside = λ p m. (let i = h.inside p m in omega (arith, size));
      zero = λ p m. (let z = h.zero p m in let away : get_or order p 0 ≢ b = λ s. e (subst (λ x. get_or waiting x 0 ≡ 0) s z) in get_or-set_other waiting b (get_or order p 0) v 0 away ∙ z);
      listed = λ i m z. elim (cases_eq i b) [
        | inl s ↦ absurd (n (sym (get_or-set_same waiting b v 0 l) ∙ subst (λ x. get_or (set waiting b v) x 0 ≡ 0) s z))
        | inr away ↦ h.listed i (omega (arith, size)) (sym (get_or-set_other waiting b i v 0 away) ∙ z)
      ];
      apart = h.apart;
      count = (let c = count_set waiting b v l e in let t : one_if (eqb v 0) ≡ 0 = ap one_if (ne_eqb v 0 n) in
          omega (arith, c, t, h.count, count_whole waiting, count_whole (set waiting b v)));
    }

pub zeros_push : (waiting : List ℕ) (b : ℕ) (order : List ℕ) → b < length waiting → get_or waiting b 0 ≢ 0 → ListsZeros waiting (length waiting) order → ListsZeros (set waiting b 0) (length (set waiting b 0)) (order ++ b ∷ [])
zeros_push waiting b order l e h =
    let size = length-set waiting b 0 in
    let away : (p : ℕ) → p < length order → get_or order p 0 ≢ b = λ p m s. e (subst (λ x. get_or waiting x 0 ≡ 0) s (h.zero p m)) in
    record {
      inside = λ p m. elim (at_push order b p m) [ inl a ↦ (let i = h.inside p a.0 in rw a.1 (omega (arith, size))) | inr o ↦ rw o.1 (omega (arith, size)) ];
      zero = λ p m. elim (at_push order b p m) [
        | inl a ↦ rw a.1 (get_or-set_other waiting b (get_or order p 0) 0 0 (away p a.0) ∙ h.zero p a.0)
        | inr o ↦ rw o.1 (get_or-set_same waiting b 0 0 l)
      ];
      listed = λ i m z. elim (cases_eq i b) [
        | inl s ↦ subst (λ x. is_in (order ++ b ∷ []) x ≡ true) (sym s) (is_in_last order b)
        | inr other ↦ is_in_left order (b ∷ []) i (h.listed i (omega (arith, size)) (sym (get_or-set_other waiting b i 0 0 other) ∙ z))
      ];
      apart = λ p q l m. elim (at_push order b q m) [
        | inl o ↦ (let low : p < length order = omega (arith, o.0) in let e = get_or_append_left order (b ∷ []) 0 p low in rw (e, o.1) (h.apart p q l o.0))
        | inr o ↦ (let low : p < length order = omega (arith, o.0) in let e = get_or_append_left order (b ∷ []) 0 p low in rw (e, o.1) (away p low))
      ];
      count = (let c = count_set waiting b 0 l e in omega (arith, c, h.count, count_whole waiting, count_whole (set waiting b 0), length_push order b));
    }

-- ---- counts of waits

or_false : (a : Bool) → (a || false) ≡ a
or_false true = refl
or_false false = refl

or_assoc : (a b c : Bool) → (a || (b || c)) ≡ ((a || b) || c)
or_assoc true b c = refl
or_assoc false b c = refl

and_le : (a b : Bool) → cond (a && b) 1 0 ≤ cond a 1 0
and_le true true = omega arith
and_le true false = omega arith
and_le false b = omega arith

and_true : (a : Bool) → (a && true) ≡ a
and_true true = refl
and_true false = refl

eqb_back : (a b : ℕ) → eqb a b ≡ eqb b a
eqb_back a b = elim (cases_eq a b) [ inl e ↦ eq-eqb a b e ∙ sym (eq-eqb b a (sym e)) | inr n ↦ ne_eqb a b n ∙ sym (ne_eqb b a (λ e. n (sym e))) ]

count_cons : (w : Wait) (waits : List Wait) (i : ℕ) → count_of (w ∷ waits) i ≡ cond (eqb w.below i) 1 0 + count_of waits i
count_cons w waits i = sum_by-cons (λ (w : Wait). cond (eqb w.below i) 1 0) w waits

left_cons : (w : Wait) (waits : List Wait) (done : List ℕ) (i : ℕ) → left_of (w ∷ waits) done i ≡ cond (eqb w.below i && not (is_in done w.above)) 1 0 + left_of waits done i
left_cons w waits done i = sum_by-cons (λ (w : Wait). cond (eqb w.below i && not (is_in done w.above)) 1 0) w waits

is_in_push : (xs : List ℕ) (c x : ℕ) → is_in (xs ++ c ∷ []) x ≡ (is_in xs x || eqb c x)
is_in_push [] c x = or_false (eqb c x)
is_in_push (y ∷ xs) c x = ap (λ t. eqb y x || t) (is_in_push xs c x) ∙ or_assoc (eqb y x) (is_in xs x) (eqb c x)

-- one wait, before and after one more class is done
left_step : (below inside is : Bool) → (is ≡ true → inside ≡ false) → cond (below && not inside) 1 0 ≡ cond (below && not (inside || is)) 1 0 + cond is (cond below 1 0) 0
left_step true true true n = absurd (false≢true (sym (n refl)))
left_step true true false n = refl
left_step true false true n = refl
left_step true false false n = refl
left_step false true true n = refl
left_step false true false n = refl
left_step false false true n = refl
left_step false false false n = refl

waits_for_count : (w : Wait) (waits : List Wait) (c i : ℕ) → count_of (waits_for (w ∷ waits) c) i ≡ cond (eqb w.above c) (cond (eqb w.below i) 1 0) 0 + count_of (waits_for waits c) i
waits_for_count w waits c i =
    elim (cases_Bool (eqb w.above c)) [
      | inl t ↦ rw t (count_cons w (waits_for waits c) i)
      | inr f ↦ rw f (omega arith)
    ]

-- what is left falls by the waits for the class that is done
pub left_more : (waits : List Wait) (done : List ℕ) (c i : ℕ) → is_in done c ≡ false → left_of waits done i ≡ left_of waits (done ++ c ∷ []) i + count_of (waits_for waits c) i
left_more [] done c i fresh = refl
left_more (w ∷ waits) done c i fresh =
    let step = left_step (eqb w.below i) (is_in done w.above) (eqb w.above c) (λ t. subst (λ x. is_in done x ≡ false) (sym (eqb-true _ _ t)) fresh) in
    let more = left_more waits done c i fresh in
    let now = left_cons w waits done i in
    let then = left_cons w waits (done ++ c ∷ []) i in
    let push = ap (λ t. one_if (eqb w.below i && not t)) (is_in_push done c w.above ∙ ap (λ t. is_in done w.above || t) (eqb_back c w.above)) in
    omega (arith, step, more, now, then, push, waits_for_count w waits c i)

none_left : {X : Type 0} (p : X → Bool) (xs : List X) (i : ℕ) (x : X) → count_by p xs ≡ 0 → slice_get xs i ≡ Some x → p x ≡ false
none_left p [] i x z e = absurd cc
none_left p (y ∷ xs) zero x z e =
    let c = sum_by-cons (λ x. cond (p x) 1 0) y xs in
    let same : y ≡ x = cc in
    elim (cases_Bool (p x)) [ inl t ↦ (let one : one_if (p y) ≡ 1 = ap one_if (ap p same ∙ t) in absurd (omega (arith, c, z, one))) | inr f ↦ f ]
none_left p (y ∷ xs) (suc i) x z e =
    let c = sum_by-cons (λ x. cond (p x) 1 0) y xs in
    none_left p xs i x (omega (arith, c, z)) e

-- where nothing of class i is left, all its waits are for classes that are done
pub all_over : (waits : List Wait) (done : List ℕ) (i x : ℕ) (w : Wait) → left_of waits done i ≡ 0 → slice_get waits x ≡ Some w → w.below ≡ i → is_in done w.above ≡ true
all_over waits done i x w z e b =
    let f = none_left (λ (w : Wait). eqb w.below i && not (is_in done w.above)) waits x w z e in
    elim (cases_Bool (is_in done w.above)) [
      | inl t ↦ t
      | inr o ↦ absurd (both_ways _ f (and_from _ _ (eq-eqb _ _ b) (ap not o)))
    ]

-- and the other way round
pub none_over : (waits : List Wait) (done : List ℕ) (i : ℕ) → ((x : ℕ) (w : Wait) → slice_get waits x ≡ Some w → w.below ≡ i → is_in done w.above ≡ true) → left_of waits done i ≡ 0
none_over [] done i all = refl
none_over (w ∷ waits) done i all =
    let rest = none_over waits done i (λ x v e b. all (suc x) v e b) in
    let here : one_if (eqb w.below i && not (is_in done w.above)) ≡ 0 =
    elim (cases_Bool (eqb w.below i)) [
      | inl t ↦ ap (λ u. one_if (eqb w.below i && not u)) (all 0 w refl (eqb-true _ _ t)) ∙ ap one_if (and_right (eqb w.below i) false refl)
      | inr f ↦ ap (λ u. one_if (u && not (is_in done w.above))) f
    ] in
    left_cons w waits done i ∙ omega (arith, rest, here)

pub left_le : (waits : List Wait) (done : List ℕ) (i : ℕ) → left_of waits done i ≤ count_of waits i
left_le [] done i = omega arith
left_le (w ∷ waits) done i =
    let now = left_cons w waits done i in
    let all = count_cons w waits i in
    let rest = left_le waits done i in
    let here : cond (eqb w.below i && not (is_in done w.above)) 1 0 ≤ cond (eqb w.below i) 1 0 = and_le (eqb w.below i) (not (is_in done w.above)) in
    omega (arith, now, all, rest, here)

left_nil : (waits : List Wait) (i : ℕ) → left_of waits [] i ≡ count_of waits i
left_nil [] i = refl
left_nil (w ∷ waits) i =
    let here : one_if (eqb w.below i && true) ≡ one_if (eqb w.below i) = ap one_if (and_true (eqb w.below i)) in
    omega (arith, left_cons w waits [] i, count_cons w waits i, left_nil waits i, here)

pub count_here : (w : Wait) (waits : List Wait) → count_of (w ∷ waits) w.below ≡ suc (count_of waits w.below)
count_here w waits =
    let one : one_if (eqb w.below w.below) ≡ 1 = ap one_if (eq-eqb w.below w.below refl) in
    omega (arith, count_cons w waits w.below, one)

pub count_there : (w : Wait) (waits : List Wait) (i : ℕ) → i ≢ w.below → count_of (w ∷ waits) i ≡ count_of waits i
count_there w waits i away =
    let none : one_if (eqb w.below i) ≡ 0 = ap one_if (ne_eqb w.below i (λ e. away (sym e))) in
    omega (arith, count_cons w waits i, none)

-- what is done stands in the order
done_in_order : (done order : List ℕ) (x : ℕ) → take (length done) order ≡ done → is_in done x ≡ true → is_in order x ≡ true
done_in_order done order x front h =
    subst (λ (xs : List ℕ). is_in xs x ≡ true) (ap (λ ys. ys ++ drop (length done) order) (sym front) ∙ take-append-drop (length done) order)
    (is_in_left done (drop (length done) order) x h)

-- ---- the state of the worklist

-- the counts after one wait is over
lowered : (waits : List Wait) (start done : List ℕ) (w : Wait) (rest : List Wait) (waiting : List ℕ) (v : ℕ) → w.below < length waiting → suc v ≡ get_or waiting w.below 0 → (i : ℕ) → get_or waiting i 0 + count_of waits i ≡ get_or start i 0 + left_of waits done i + count_of (w ∷ rest) i → get_or (set waiting w.below v) i 0 + count_of waits i ≡ get_or start i 0 + left_of waits done i + count_of rest i
lowered waits start done w rest waiting v inside one i now =
    elim (cases_eq i w.below) [
      | inl e ↦ (let before = subst (λ k. get_or waiting k 0 + count_of waits k ≡ get_or start k 0 + left_of waits done k + count_of (w ∷ rest) k) e now in
          subst (λ k. get_or (set waiting w.below v) k 0 + count_of waits k ≡ get_or start k 0 + left_of waits done k + count_of rest k) (sym e)
          (omega (arith, before, one, count_here w rest, get_or-set_same waiting w.below v 0 inside)))
      | inr away ↦ omega (arith, now, count_there w rest i away, get_or-set_other waiting w.below i v 0 away)
    ]

-- at the start nothing is done
pub releasing_start : (waits : List Wait) (start order : List ℕ) → AreCounted start waits → ListsZeros start (length start) order → IsReleasing waits start [] [] start order
releasing_start waits start order counted zeros =
    let quiet : (p : ℕ) → p < length order → count_of waits (get_or order p 0) ≡ 0 = λ p l. (let z = zeros.zero p l in let c = counted.each (get_or order p 0) (zeros.inside p l) in omega arith) in
    record {
      zeros = zeros;
      size = refl;
      counted = counted;
      counts = λ i l. (let n = left_nil waits i in omega (arith, n));
      fits = omega arith;
      front = refl;
      behind = λ p x w l e b. (let none = none_left (λ (w : Wait). eqb w.below (get_or order p 0)) waits x w (quiet p l) e in absurd (both_ways _ none (eq-eqb _ _ b)));
      sound = λ p l. zeros.zero p l ∙ sym (quiet p l);
    }

-- the next class is done, and its waits are to be told
pub releasing_begin : (waits : List Wait) (start done waiting order : List ℕ) → length done < length order → IsReleasing waits start done [] waiting order → IsReleasing waits start (done ++ get_or order (length done) 0 ∷ []) (waits_for waits (get_or order (length done) 0)) waiting order
releasing_begin waits start done waiting order more h =
    let c = get_or order (length done) 0 in
    let read : (p : ℕ) → p < length done → get_or done p 0 ≡ get_or order p 0 = λ p l. ap (λ (xs : List ℕ). get_or xs p 0) (sym h.front) ∙ get_or-take (length done) order p 0 l in
    let fresh = not_in done c (λ p l e. h.zeros.apart p (length done) l more (sym (read p l) ∙ e)) in
    record {
      zeros = h.zeros;
      size = h.size;
      counted = h.counted;
      counts = λ i l. (let n = h.counts i l in let s = left_more waits done c i fresh in omega (arith, n, s));
      fits = omega (arith, length_push done c);
      front = ap (λ k. take k order) (length_push done c) ∙ take_more order (length done) 0 more ∙ ap (λ (xs : List ℕ). xs ++ c ∷ []) h.front;
      behind = h.behind;
      sound = h.sound;
    }

-- one wait is over, and its class has others
pub releasing_lower : (waits : List Wait) (start done : List ℕ) (w : Wait) (rest : List Wait) (waiting order : List ℕ) (v : ℕ) → w.below < length waiting → suc v ≡ get_or waiting w.below 0 → v ≢ 0 → IsReleasing waits start done (w ∷ rest) waiting order → IsReleasing waits start done rest (set waiting w.below v) order
releasing_lower waits start done w rest waiting order v inside one away h =
    let busy : get_or waiting w.below 0 ≢ 0 = λ e. omega arith in
    record {
      zeros = zeros_lower waiting w.below v order inside busy away h.zeros;
      size = length-set waiting w.below v ∙ h.size;
      counted = h.counted;
      counts = λ i l. lowered waits start done w rest waiting v inside one i (h.counts i l);
      fits = h.fits;
      front = h.front;
      behind = h.behind;
      sound = h.sound;
    }

-- one wait is over, and it was the last of its class
pub releasing_push : (waits : List Wait) (start done : List ℕ) (w : Wait) (rest : List Wait) (waiting order : List ℕ) → w.below < length waiting → 1 ≡ get_or waiting w.below 0 → IsReleasing waits start done (w ∷ rest) waiting order → IsReleasing waits start done rest (set waiting w.below 0) (order ++ w.below ∷ [])
releasing_push waits start done w rest waiting order inside one h =
    let b = w.below in
    let busy : get_or waiting b 0 ≢ 0 = λ e. omega arith in
    let started : b < length start = omega (arith, h.size) in
    let here = count_here w rest in
    let now = h.counts b started in
    let bound = h.counted.each b started in
    let over : left_of waits done b ≡ 0 = omega (arith, here, now, bound) in
    let whole : get_or start b 0 ≡ count_of waits b = omega (arith, here, now, bound) in
    record {
      zeros = zeros_push waiting b order inside busy h.zeros;
      size = length-set waiting b 0 ∙ h.size;
      counted = h.counted;
      counts = λ i l. lowered waits start done w rest waiting 0 inside one i (h.counts i l);
      fits = (let f = h.fits in omega (arith, length_push order b));
      front = take-append-le (length done) order (b ∷ []) h.fits ∙ h.front;
      behind = λ p x v l e s. elim (at_push order b p l) [
        | inl a ↦ (let low : p ≤ length order = omega (arith, a.0) in
            subst (λ (xs : List ℕ). is_in xs v.above ≡ true) (sym (take-append-le p order (b ∷ []) low)) (h.behind p x v a.0 e (s ∙ a.1)))
        | inr o ↦ subst (λ (xs : List ℕ). is_in xs v.above ≡ true) (sym (ap (λ k. take k (order ++ b ∷ [])) o.0 ∙ take_at order (b ∷ []) (length order) refl))
            (done_in_order done order v.above h.front (all_over waits done b x v over e (s ∙ o.1)))
      ];
      sound = λ p l. elim (at_push order b p l) [ inl a ↦ rw a.1 (h.sound p a.0) | inr o ↦ rw o.1 whole ];
    }

-- at the end all of the order is done
pub releasing_end : (waits : List Wait) (start done waiting order : List ℕ) → length order ≤ length done → IsReleasing waits start done [] waiting order → IsReleased waits start waiting order
releasing_end waits start done waiting order all h =
    let same : done ≡ order = sym h.front ∙ take_all (length done) order all in
    record {
      zeros = h.zeros;
      size = h.size;
      behind = h.behind;
      sound = h.sound;
      complete = λ i l whole over.
          let none = none_over waits done i (λ x w e b. subst (λ (xs : List ℕ). is_in xs w.above ≡ true) (sym same) (over x w e b)) in
          let now = h.counts i l in
          h.zeros.listed i (omega (arith, h.size)) (omega (arith, none, now, whole));
    }

-- what is to be told is waited for
pub counted_rest : (waits : List Wait) (start done : List ℕ) (rest : List Wait) (waiting order : List ℕ) → IsReleasing waits start done rest waiting order → AreCounted waiting rest
counted_rest waits start done rest waiting order h = record {
  each = λ i l. (let started : i < length start = omega (arith, h.size) in let now = h.counts i started in let bound = h.counted.each i started in omega arith);
}

-- what a filter keeps was there
pub kept_was_there : {X : Type 0} (p : X → Bool) (xs : List X) (i : ℕ) (x : X) → slice_get (filter p xs) i ≡ Some x → (j : ℕ) × (slice_get xs j ≡ Some x)
kept_was_there p [] i x e = absurd cc
kept_was_there {X} p (y ∷ xs) i x e = go (p y) i e (λ i e. kept_was_there p xs i x e) where
  go : (b : Bool) (i : ℕ) → slice_get (cond b (y ∷ filter p xs) (filter p xs)) i ≡ Some x → ((i : ℕ) → slice_get (filter p xs) i ≡ Some x → (j : ℕ) × (slice_get xs j ≡ Some x)) → (j : ℕ) × (slice_get (y ∷ xs) j ≡ Some x)
  go true zero e rest = (0, e)
  go true (suc i) e rest = (let r = rest i e in (suc r.0, r.1))
  go false i e rest = (let r = rest i e in (suc r.0, r.1))

pub inside_told : (n : ℕ) (waits : List Wait) (c : ℕ) → AreInside n waits → AreInside n (waits_for waits c)
inside_told n waits c h = record {
  above = λ x w e. (let r = kept_was_there (λ (w : Wait). eqb w.above c) waits x w e in h.above r.0 w r.1);
  below = λ x w e. (let r = kept_was_there (λ (w : Wait). eqb w.above c) waits x w e in h.below r.0 w r.1);
}
