-- Reading a decimal digit after digit, as far as a word of 64 bits has it.
use Rattle.std.proofs.Common.{◌≡◌, ℕ, ◌+◌, ◌-◌, ◌*◌, ◌^◌, ◌<◌, ◌≤◌, true, false, cond, ltb, leb, List, [], ◌∷◌, length, get_or, drop, Option, Some, None, refl, sym, ap, ◌∙◌, arith, ℤ, pos, ◌-ℤ◌, ◌≤ℤ◌, ◌<ℤ◌}
use Rattle.std.proofs.lemmas.List.{at_drop_more, drop_all}
use Rattle.std.proofs.lemmas.Bool.Decides.{nat_tests}
use Rattle.std.proofs.lemmas.Int.{ints}
use Rattle.std.specs.Prelude.{option_and_then}
use Rattle.wf_lines.specs.Decimals.{is_digit, value_from, in_word, digit_on, at_most, within, as_long}

-- a number that is too large stays so
too_large : (n : ℕ) (digits : List ℕ) → 2 ^ 64 ≤ n → option_and_then in_word (value_from n digits) ≡ None
too_large n [] le = let no : ltb n (2 ^ 64) ≡ false = grind (arith, nat_tests) in rw no refl
too_large n (b ∷ bytes) le =
    elim (is_digit b) as (λ v. option_and_then in_word (cond v (value_from (n * 10 + (b - 48)) bytes) None) ≡ None) [
      | true ↦ too_large (n * 10 + (b - 48)) bytes (omega arith)
      | false ↦ refl
    ]

-- one digit and the others
step : (n b : ℕ) (bytes : List ℕ) → option_and_then in_word (value_from n (b ∷ bytes)) ≡ option_and_then (λ m. option_and_then in_word (value_from m bytes)) (digit_on n b)
step n b bytes =
    elim (is_digit b) as (λ v. option_and_then in_word (cond v (value_from (n * 10 + (b - 48)) bytes) None) ≡ option_and_then (λ m. option_and_then in_word (value_from m bytes)) (cond v (in_word (n * 10 + (b - 48))) None)) [
      | true ↦ in_or_out (n * 10 + (b - 48)) bytes
      | false ↦ refl
    ]
  where
    in_or_out : (m : ℕ) (bytes : List ℕ) → option_and_then in_word (value_from m bytes) ≡ option_and_then (λ k. option_and_then in_word (value_from k bytes)) (in_word m)
    in_or_out m bytes =
        elim (ltb m (2 ^ 64)) as (λ v. ltb m (2 ^ 64) ≡ v → option_and_then in_word (value_from m bytes) ≡ option_and_then (λ k. option_and_then in_word (value_from k bytes)) (cond v (Some m) None)) [
          | true ↦ λ e. refl
          | false ↦ λ e. too_large m bytes (grind (arith, nat_tests))
        ] refl

at_digit : (n : ℕ) (digits : List ℕ) (i : ℕ) → i < length digits → option_and_then in_word (value_from n (drop i digits)) ≡ option_and_then (λ m. option_and_then in_word (value_from m (drop (i + 1) digits))) (digit_on n (get_or digits i 0))
at_digit n digits i lt = at_drop_more (λ (ds : List ℕ). option_and_then in_word (value_from n ds)) digits i 0 lt ∙ step n (get_or digits i 0) (drop (i + 1) digits)

pub goes_on : (n m : ℕ) (digits : List ℕ) (i : ℕ) (total : Option ℕ) → i < length digits → digit_on n (get_or digits i 0) ≡ Some m
    → option_and_then in_word (value_from n (drop i digits)) ≡ total → option_and_then in_word (value_from m (drop (i + 1) digits)) ≡ total
goes_on n m digits i total lt h so_far =
    let one : option_and_then in_word (value_from n (drop i digits)) ≡ option_and_then in_word (value_from m (drop (i + 1) digits)) = at_digit n digits i lt ∙ ap (λ (o : Option ℕ). option_and_then (λ k. option_and_then in_word (value_from k (drop (i + 1) digits))) o) h in
    sym one ∙ so_far

pub stops : (n : ℕ) (digits : List ℕ) (i : ℕ) (total : Option ℕ) → i < length digits → digit_on n (get_or digits i 0) ≡ None
    → option_and_then in_word (value_from n (drop i digits)) ≡ total → total ≡ None
stops n digits i total lt h so_far =
    let one : option_and_then in_word (value_from n (drop i digits)) ≡ None = at_digit n digits i lt ∙ ap (λ (o : Option ℕ). option_and_then (λ k. option_and_then in_word (value_from k (drop (i + 1) digits))) o) h in
    sym so_far ∙ one

pub ends : (n : ℕ) (digits : List ℕ) (i : ℕ) (total : Option ℕ) → length digits ≤ i → n < 2 ^ 64 → option_and_then in_word (value_from n (drop i digits)) ≡ total → total ≡ Some n
ends n digits i total le lt so_far =
    let yes : ltb n (2 ^ 64) ≡ true = grind (arith, nat_tests) in
    let one : option_and_then in_word (value_from n (drop i digits)) ≡ Some n = rw (drop_all i digits le) (rw yes refl) in
    sym so_far ∙ one

-- a range within 64 bits
narrowed_some : (least most n : ℤ) → (pos 0 -ℤ pos (2 ^ 63)) ≤ℤ least → most ≤ℤ (pos (2 ^ 63) -ℤ pos 1) → option_and_then (within least most) (as_long n) ≡ within least most n
narrowed_some least most n low high = grind (arith, ints)

pub narrowed : (least most : ℤ) (o : Option ℤ) → (pos 0 -ℤ pos (2 ^ 63)) ≤ℤ least → most ≤ℤ (pos (2 ^ 63) -ℤ pos 1)
    → option_and_then (within least most) (option_and_then as_long o) ≡ option_and_then (within least most) o
narrowed least most None low high = refl
narrowed least most (Some n) low high = narrowed_some least most n low high

pub is_below : (least most n : ℤ) → n <ℤ least → within least most n ≡ None
is_below least most n h = grind (arith, ints)

pub is_above : (least most n : ℤ) → most <ℤ n → within least most n ≡ None
is_above least most n h = grind (arith, ints)

pub is_within : (least most n : ℤ) → least ≤ℤ n → n ≤ℤ most → within least most n ≡ Some n
is_within least most n h k = grind (arith, ints)

-- the same for numbers that aren't negative
at_most_some : (most n : ℕ) → most < 2 ^ 64 → option_and_then (at_most most) (in_word n) ≡ at_most most n
at_most_some most n lt =
    elim (ltb n (2 ^ 64)) as (λ v. ltb n (2 ^ 64) ≡ v → option_and_then (at_most most) (cond v (Some n) None) ≡ at_most most n) [
      | true ↦ λ e. refl
      | false ↦ λ e. let no : leb n most ≡ false = grind (arith, nat_tests) in rw no refl
    ] refl

pub narrowed_natural : (most : ℕ) (o : Option ℕ) → most < 2 ^ 64 → option_and_then (at_most most) (option_and_then in_word o) ≡ option_and_then (at_most most) o
narrowed_natural most None lt = refl
narrowed_natural most (Some n) lt = at_most_some most n lt

pub at_most_within : (most n : ℕ) → n ≤ most → at_most most n ≡ Some n
at_most_within most n le = let yes : leb n most ≡ true = grind (arith, nat_tests) in rw yes refl

pub at_most_above : (most n : ℕ) → most < n → at_most most n ≡ None
at_most_above most n lt = let no : leb n most ≡ false = grind (arith, nat_tests) in rw no refl
