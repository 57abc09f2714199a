-- Rows slot by slot: what comes of a row by another that comes along a way.
use Rattle.std.proofs.Common.{◌≡◌, ℕ, zero, suc, ◌+◌, ◌*◌, ◌<◌, ◌≤◌, Bool, true, false, not, ◌||◌, cond, List, [], ◌∷◌, ◌++◌, length, get_or, drop, Option, Some, None, refl, sym, ap, subst, ◌∙◌, arith, inl, inr, append_assoc}
use Rattle.std.specs.Prelude.{◌⊎◌, ◌==◌}
use Rattle.std.proofs.lemmas.List.{drop_more, at_drop_all, append-nil}
use Rattle.std.proofs.lemmas.Bool.{eqb-true, eqb-false}
use Rattle.wf_operation.specs.declared.slot.SlotKind.{SlotKind}
use Rattle.wf_blocks.specs.declared.seen.Seen.{Seen}
use Rattle.wf_blocks.specs.declared.rows.Grown.TheVariants.{Differs, Same, More}
use Rattle.wf_blocks.specs.SeenKinds.{has, both, adds}
use Rattle.wf_blocks.specs.Rows.{seen_at, joined, row_adds, grown, IsWithin}
use Rattle.wf_blocks.specs.Flowing.{height, left_of, RowFits}
use Rattle.wf_blocks.proofs.SeenLemmas.{or_none, or_cases, has-both_left, has-both_right, has-both, has-no_adds, kinds_in-both, kinds_in-adds, kinds_in-le}

-- ---- the loops

pub adds_more : (row after : List Seen) (i : ℕ) (a b : Seen) → i < length row → i < length after
    → row_adds (drop i row) (drop i after) ≡ (adds (get_or row i a) (get_or after i b) || row_adds (drop (i + 1) row) (drop (i + 1) after))
adds_more row after i a b lt less = rw (drop_more row i a lt, drop_more after i b less)

pub adds_all : (row after : List Seen) (i : ℕ) → length row ≤ i → row_adds (drop i row) (drop i after) ≡ false
adds_all row after i le = at_drop_all (λ (r : List Seen). row_adds r (drop i after)) row i le

pub joined_more : (all row after : List Seen) (i : ℕ) (a b : Seen) → i < length row → i < length after
    → all ++ joined (drop i row) (drop i after) ≡ (all ++ both (get_or row i a) (get_or after i b) ∷ []) ++ joined (drop (i + 1) row) (drop (i + 1) after)
joined_more all row after i a b lt less =
    rw (drop_more row i a lt, drop_more after i b less) (sym (append_assoc all (both (get_or row i a) (get_or after i b) ∷ []) (joined (drop (i + 1) row) (drop (i + 1) after))))

pub joined_all : (all row after : List Seen) (i : ℕ) → length row ≤ i → all ++ joined (drop i row) (drop i after) ≡ all
joined_all all row after i le = ap (λ (r : List Seen). all ++ r) (at_drop_all (λ (r : List Seen). joined r (drop i after)) row i le) ∙ append-nil all

-- ---- the facts

pub length-joined : (row after : List Seen) → length (joined row after) ≡ length row
length-joined [] after = refl
length-joined (a ∷ row) [] = refl
length-joined (a ∷ row) (b ∷ after) = ap suc (length-joined row after)

pub seen_at-joined : (row after : List Seen) (i : ℕ) → length row ≡ length after → seen_at (joined row after) i ≡ both (seen_at row i) (seen_at after i)
seen_at-joined [] [] i e = refl
seen_at-joined [] (b ∷ after) i e = absurd (omega arith)
seen_at-joined (a ∷ row) [] i e = absurd (omega arith)
seen_at-joined (a ∷ row) (b ∷ after) zero e = refl
seen_at-joined (a ∷ row) (b ∷ after) (suc i) e = seen_at-joined row after i (omega arith)

pub has-no_row_adds : (row after : List Seen) (i : ℕ) (k : SlotKind) → length row ≡ length after → row_adds row after ≡ false
    → has (seen_at after i) k ≡ true → has (seen_at row i) k ≡ true
has-no_row_adds [] [] i k e no_more h = h
has-no_row_adds [] (b ∷ after) i k e no_more h = absurd (omega arith)
has-no_row_adds (a ∷ row) [] i k e no_more h = absurd (omega arith)
has-no_row_adds (a ∷ row) (b ∷ after) zero k e no_more h = has-no_adds a b k (or_none (adds a b) (row_adds row after) no_more).0 h
has-no_row_adds (a ∷ row) (b ∷ after) (suc i) k e no_more h = has-no_row_adds row after i k (omega arith) (or_none (adds a b) (row_adds row after) no_more).1 h

height-joined_le : (row after : List Seen) → height row ≤ height (joined row after)
height-joined_le [] after = omega arith
height-joined_le (a ∷ row) [] = omega arith
height-joined_le (a ∷ row) (b ∷ after) = omega (arith, kinds_in-both a b, height-joined_le row after)

height-joined : (row after : List Seen) → row_adds row after ≡ true → height row < height (joined row after)
height-joined [] after e = absurd cc
height-joined (a ∷ row) [] e = absurd cc
height-joined (a ∷ row) (b ∷ after) e =
    elim (or_cases (adds a b) (row_adds row after) e) [
      | inl here ↦ omega (arith, kinds_in-adds a b here, height-joined_le row after)
      | inr there ↦ omega (arith, kinds_in-both a b, height-joined row after there)
    ]

height-le : (row : List Seen) → height row ≤ 5 * length row
height-le [] = omega arith
height-le (s ∷ row) = omega (arith, kinds_in-le s, height-le row)

-- ---- what comes of a row, taken apart

-- the row that a kind was in before
pub record Before (old : Option (List Seen)) (count slot : ℕ) (k : SlotKind) : Type 0 where
  pub row : List Seen
  pub there : old ≡ Some row
  pub count_is : length row ≡ count
  pub seen : has (seen_at row slot) k ≡ true

pub record Brought (after : List Seen) (count slot : ℕ) (k : SlotKind) : Type 0 where
  pub count_is : length after ≡ count
  pub seen : has (seen_at after slot) k ≡ true

pub record IsMore (old : Option (List Seen)) (after row : List Seen) : Type 0 where
  pub within : IsWithin after row
  pub keeps : (r : List Seen) → old ≡ Some r → IsWithin r row
  pub least : (i : ℕ) (k : SlotKind) → has (seen_at row i) k ≡ true → Before old (length row) i k ⊎ Brought after (length row) i k
  pub less : (width : ℕ) → RowFits width old → length after ≤ width → (left_of width (Some row) + 1 ≤ left_of width old) × (length row ≤ width)

pub within_itself : (row : List Seen) → IsWithin row row
within_itself row = record { same_length = refl; each = λ i k h. h }

joined_is : (r after : List Seen) → length r ≡ length after → row_adds r after ≡ true → IsMore (Some r) after (joined r after)
joined_is r after e more = record {
  within = record { same_length = sym e ∙ sym (length-joined r after); each = λ i k h. subst (λ (s : Seen). has s k ≡ true) (sym (seen_at-joined r after i e)) (has-both_right (seen_at r i) (seen_at after i) k h) };
  keeps = λ r' is. subst (λ (q : List Seen). IsWithin q (joined r after)) (unwrapped is) (record { same_length = sym (length-joined r after); each = λ i k h. subst (λ (s : Seen). has s k ≡ true) (sym (seen_at-joined r after i e)) (has-both_left (seen_at r i) (seen_at after i) k h) });
  least = λ i k h. parts i k (has-both (seen_at r i) (seen_at after i) k (subst (λ (s : Seen). has s k ≡ true) (seen_at-joined r after i e) h));
  less = λ width fits low. (omega (arith, height-joined r after more, height-le (joined r after), length-joined r after), omega (arith, length-joined r after));
}
  where
    unwrapped : {r' : List Seen} → Some r ≡ Some r' → r ≡ r'
    unwrapped is = cc

    parts : (i : ℕ) (k : SlotKind) → (has (seen_at r i) k ≡ true) ⊎ (has (seen_at after i) k ≡ true)
        → Before (Some r) (length (joined r after)) i k ⊎ Brought after (length (joined r after)) i k
    parts i k (inl was) = inl (record { row = r; there = refl; count_is = sym (length-joined r after); seen = was })
    parts i k (inr came) = inr (record { count_is = sym e ∙ sym (length-joined r after); seen = came })

first_is : (after : List Seen) → IsMore None after after
first_is after = record {
  within = within_itself after;
  keeps = λ r is. absurd (nothing is);
  least = λ i k h. inr (record { count_is = refl; seen = h });
  less = λ width fits low. (omega arith, low);
}
  where
    nothing : {r : List Seen} → None ≡ Some r → ⊥
    nothing is = cc

more_by : (r after row : List Seen) (same more : Bool) → (length r == length after) ≡ same → row_adds r after ≡ more
    → cond (not same) Differs (cond more (More (joined r after)) Same) ≡ More row → IsMore (Some r) after row
more_by r after row true true e a is =
    let one : joined r after ≡ row = cc in
    subst (λ (q : List Seen). IsMore (Some r) after q) one (joined_is r after (eqb-true _ _ e) a)
more_by r after row true false e a is = absurd cc
more_by r after row false more e a is = absurd cc

pub is_more : (old : Option (List Seen)) (after row : List Seen) → grown old after ≡ More row → IsMore old after row
is_more None after row is =
    let one : after ≡ row = cc in
    subst (λ (q : List Seen). IsMore None after q) one (first_is after)
is_more (Some r) after row is = more_by r after row (length r == length after) (row_adds r after) refl refl is

-- nothing comes of a row that has all these kinds
pub record IsSame (old : Option (List Seen)) (after : List Seen) : Type 0 where
  pub row : List Seen
  pub there : old ≡ Some row
  pub within : IsWithin after row

same_by : (r after : List Seen) (same more : Bool) → (length r == length after) ≡ same → row_adds r after ≡ more
    → cond (not same) Differs (cond more (More (joined r after)) Same) ≡ Same → IsSame (Some r) after
same_by r after true true e a is = absurd cc
same_by r after true false e a is = record {
  row = r;
  there = refl;
  within = record { same_length = sym (eqb-true _ _ e); each = λ i k h. has-no_row_adds r after i k (eqb-true _ _ e) a h };
}
same_by r after false more e a is = absurd cc

pub is_same : (old : Option (List Seen)) (after : List Seen) → grown old after ≡ Same → IsSame old after
is_same None after is = absurd cc
is_same (Some r) after is = same_by r after (length r == length after) (row_adds r after) refl refl is

pub record IsOther (old : Option (List Seen)) (after : List Seen) : Type 0 where
  pub row : List Seen
  pub there : old ≡ Some row
  pub differs : length row ≡ length after → ⊥

other_by : (r after : List Seen) (same more : Bool) → (length r == length after) ≡ same
    → cond (not same) Differs (cond more (More (joined r after)) Same) ≡ Differs → IsOther (Some r) after
other_by r after true true e is = absurd cc
other_by r after true false e is = absurd cc
other_by r after false more e is = record { row = r; there = refl; differs = eqb-false (length r) (length after) e }

pub is_other : (old : Option (List Seen)) (after : List Seen) → grown old after ≡ Differs → IsOther old after
is_other None after is = absurd cc
is_other (Some r) after is = other_by r after (length r == length after) (row_adds r after) refl is
