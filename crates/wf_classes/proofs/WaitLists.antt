-- The lists of what classes wait for, a class at a time, and the classes that are kept.
use Rattle.std.proofs.Common.{◌≡◌, ◌≢◌, ℕ, ◌+◌, ◌<◌, ◌≤◌, cond, List, [], ◌∷◌, ◌++◌, length, get_or, set, take, drop, map, Some, refl, sym, ap, subst, ◌∙◌, add-one, arith, inl, inr}
use Rattle.std.specs.Prelude.{slice_get, option_to_list}
use Rattle.std.specs.List.{swap}
use Rattle.std.specs.Option.{option_map_or}
use Rattle.std.proofs.lemmas.Bool.{cases_eq, eq-eqb, ne_eqb}
use Rattle.std.proofs.lemmas.List.{take_more, drop_more, map-append, append-nil, take-set-le, take_more_set, drop-set-lt, length-set}
use Rattle.std.proofs.lemmas.List.Edits.{swap_is, length-swap}
use Rattle.std.proofs.lemmas.Option.{slice_get-get_or, slice_get_within, get_or_from_slice_get}
use Rattle.wf_data.specs.declared.class_info.ClassInfo.{ClassInfo}
use Rattle.wf_classes.specs.Closing.{waits_at, waits_upto, wanted, kept_upto}

pub waits_more : (files : List ClassInfo) (i : ℕ) (k : ClassInfo) → slice_get files i ≡ Some k → waits_upto files (i + 1) ≡ waits_upto files i ++ waits_at files i k
waits_more files i k e = ap (waits_upto files) (add-one i) ∙ ap (λ o. waits_upto files i ++ option_map_or (waits_at files i) o []) e

pub wanted_more : (files : List ClassInfo) (i : ℕ) (k : ClassInfo) → slice_get files i ≡ Some k → map wanted (take (i + 1) files) ≡ map wanted (take i files) ++ wanted k ∷ []
wanted_more files i k e =
    let l = slice_get_within files i k e in
    ap (map wanted) (take_more files i k l ∙ ap (λ x. take i files ++ x ∷ []) (get_or_from_slice_get files i k k e)) ∙ map-append wanted (take i files) (k ∷ [])

pub kept_same : (waiting : List ℕ) (files : List ClassInfo) (i : ℕ) → get_or waiting i 0 ≢ 0 → kept_upto waiting files (i + 1) ≡ kept_upto waiting files i
kept_same waiting files i n =
    ap (kept_upto waiting files) (add-one i)
    ∙ ap (λ t. kept_upto waiting files i ++ cond t (option_to_list (slice_get files i)) []) (ne_eqb (get_or waiting i 0) 0 n)
    ∙ append-nil (kept_upto waiting files i)

pub kept_more : (waiting : List ℕ) (files : List ClassInfo) (i : ℕ) (k : ClassInfo) → slice_get files i ≡ Some k → get_or waiting i 0 ≡ 0 → kept_upto waiting files (i + 1) ≡ kept_upto waiting files i ++ k ∷ []
kept_more waiting files i k e z =
    ap (kept_upto waiting files) (add-one i)
    ∙ ap (λ t. kept_upto waiting files i ++ cond t (option_to_list (slice_get files i)) []) (eq-eqb (get_or waiting i 0) 0 z)
    ∙ ap (λ o. kept_upto waiting files i ++ option_to_list o) e

-- ---- one swap

swapped_front : {X : Type 0} (xs : List X) (a i : ℕ) (d : X) → a ≤ i → i < length xs → take (a + 1) (swap xs a i) ≡ take a xs ++ get_or xs i d ∷ []
swapped_front xs a i d low l =
    let la : a < length xs = omega arith in
    let moved = set xs a (get_or xs i d) in
    let size = length-set xs a (get_or xs i d) in
    elim (cases_eq a i) [
      | inl e ↦
          (let first : take (a + 1) (set moved i (get_or xs a d)) ≡ take a moved ++ get_or xs a d ∷ [] =
          subst (λ j. take (a + 1) (set moved j (get_or xs a d)) ≡ take a moved ++ get_or xs a d ∷ []) e (take_more_set moved a (get_or xs a d) (omega (arith, size))) in
          ap (take (a + 1)) (sym (swap_is xs a i d la l)) ∙ first ∙ ap (λ ys. ys ++ get_or xs a d ∷ []) (take-set-le a xs a (get_or xs i d) (omega arith)) ∙ ap (λ j. take a xs ++ get_or xs j d ∷ []) e)
      | inr n ↦
          (let before : a + 1 ≤ i = omega arith in
          ap (take (a + 1)) (sym (swap_is xs a i d la l)) ∙ take-set-le (a + 1) moved i (get_or xs a d) before ∙ take_more_set xs a (get_or xs i d) la)
    ]

swapped_rest : {X : Type 0} (xs : List X) (a i : ℕ) (d : X) → a ≤ i → i < length xs → drop (i + 1) (swap xs a i) ≡ drop (i + 1) xs
swapped_rest xs a i d low l =
    ap (drop (i + 1)) (sym (swap_is xs a i d (omega arith) l))
    ∙ drop-set-lt (i + 1) (set xs a (get_or xs i d)) i (get_or xs a d) (omega arith)
    ∙ drop-set-lt (i + 1) xs a (get_or xs i d) (omega arith)

-- the front and the rest of the files, after the first i were looked at
pub record Moved (waiting : List ℕ) (files now : List ClassInfo) (i kept : ℕ) : Type 0 where
  pub upto : kept ≤ i
  pub front : take kept now ≡ kept_upto waiting files i
  pub rest : drop i now ≡ drop i files
  pub size : length now ≡ length files

pub moved_none : (waiting : List ℕ) (files : List ClassInfo) → Moved waiting files files 0 0
moved_none waiting files = record { upto = omega arith; front = refl; rest = refl; size = refl }

rest_more : {X : Type 0} (xs ys : List X) (i : ℕ) (d : X) → i < length xs → i < length ys → drop i xs ≡ drop i ys → drop (i + 1) xs ≡ drop (i + 1) ys
rest_more xs ys i d l m e = tails (sym (drop_more xs i d l) ∙ e ∙ drop_more ys i d m) where
  tails : get_or xs i d ∷ drop (i + 1) xs ≡ get_or ys i d ∷ drop (i + 1) ys → drop (i + 1) xs ≡ drop (i + 1) ys
  tails e = cc

pub moved_same : (waiting : List ℕ) (files now : List ClassInfo) (i kept : ℕ) → i < length now → get_or waiting i 0 ≢ 0 → Moved waiting files now i kept → Moved waiting files now (i + 1) kept
moved_same waiting files now i kept l n h = record {
  upto = (let u = h.upto in omega arith);
  front = h.front ∙ sym (kept_same waiting files i n);
  rest = go now l h.rest h.size;
  size = h.size;
} where
  go : (now : List ClassInfo) → i < length now → drop i now ≡ drop i files → length now ≡ length files → drop (i + 1) now ≡ drop (i + 1) files
  go [] l e s = absurd (omega arith)
  go (k ∷ ks) l e s = rest_more (k ∷ ks) files i k l (omega arith) e

pub moved_more : (waiting : List ℕ) (files now : List ClassInfo) (i kept : ℕ) → i < length now → get_or waiting i 0 ≡ 0 → Moved waiting files now i kept → Moved waiting files (swap now kept i) (i + 1) (kept + 1)
moved_more waiting files [] i kept l z h = absurd (omega arith)
moved_more waiting files (k ∷ ks) i kept l z h =
    let now = k ∷ ks in
    let there : i < length files = omega (arith, h.size) in
    let x = get_or now i k in
    let same : x ≡ get_or files i k = first (sym (drop_more now i k l) ∙ h.rest ∙ drop_more files i k there) in
    record {
      upto = (let u = h.upto in omega arith);
      front = swapped_front now kept i k h.upto l ∙ ap (λ ys. ys ++ x ∷ []) h.front ∙ sym (kept_more waiting files i x (slice_get-get_or files i k there ∙ ap (λ y. Some y) (sym same)) z);
      rest = swapped_rest now kept i k h.upto l ∙ rest_more now files i k l there h.rest;
      size = length-swap now kept i ∙ h.size;
    } where
      first : {a b : ClassInfo} {xs ys : List ClassInfo} → a ∷ xs ≡ b ∷ ys → a ≡ b
      first e = cc
