-- Rows that are made bit by bit.
use Rattle.std.proofs.Common.{◌≡◌, ℕ, zero, suc, ◌+◌, ◌*◌, ◌^◌, ◌/◌, ◌%◌, ◌<◌, Bool, true, false, if◌then◌else◌, ◌⊎◌, inl, inr, ◌==◌, ◌||◌, bit_or, refl, sym, ap, ◌∙◌, subst, arith, eq-eqb, ne_eqb}
use Rattle.std.proofs.lemmas.Bool.{cases_eq, true≢false, or_cases, or_left, or_right, cond-true, cond-false}
use Rattle.wf_lattice.specs.Words.{IsIn, IsWithin}
use Rattle.wf_lattice.proofs.BitLaws.{in_itself, or_grows, in_through, in_left, in_right}
use Rattle.wf_system.specs.Rows.{bit_row, word_where, row_where}
use Rattle.wf_system.specs.System.{some_type}

pub if_grows : (a b : Bool) (v w : ℕ) → (a ≡ true → b ≡ true) → IsIn v w → IsIn (if a then v else 0) (if b then w else 0)
if_grows true true v w up p = p
if_grows true false v w up p = absurd (true≢false (sym (up refl)))
if_grows false b v w up p = refl

pub word_where_grows : (P Q : ℕ → Bool) (n : ℕ) → ((j : ℕ) → P j ≡ true → Q j ≡ true) → IsIn (word_where P n) (word_where Q n)
word_where_grows P Q zero up = refl
word_where_grows P Q (suc n) up = or_grows (if P n then 2 ^ n else 0) (word_where P n) (if Q n then 2 ^ n else 0) (word_where Q n)
    (if_grows (P n) (Q n) (2 ^ n) (2 ^ n) (up n) (in_itself (2 ^ n))) (word_where_grows P Q n up)

-- a row of more bits has more
pub row_grows : (P Q : ℕ → Bool) → ((b : ℕ) → P b ≡ true → Q b ≡ true) → IsWithin (row_where P) (row_where Q)
row_grows P Q up = record { each = λ k. word_where_grows (λ j. P (k * 64 + j)) (λ j. Q (k * 64 + j)) 64 (λ j. up (k * 64 + j)) }

pub some_grows : (n : ℕ) (P Q : ℕ → Bool) → ((c : ℕ) → P c ≡ true → Q c ≡ true) → some_type n P ≡ true → some_type n Q ≡ true
some_grows zero P Q up e = e
some_grows (suc zero) P Q up e = e
some_grows (suc (suc n)) P Q up e = go (or_cases (some_type (suc n) P) (P (suc n)) e) (some_grows (suc n) P Q up)
  where
    go : ((some_type (suc n) P ≡ true) ⊎ (P (suc n) ≡ true)) → (some_type (suc n) P ≡ true → some_type (suc n) Q ≡ true) → (some_type (suc n) Q || Q (suc n)) ≡ true
    go (inl h) before = or_left (some_type (suc n) Q) (Q (suc n)) (before h)
    go (inr h) before = or_right (some_type (suc n) Q) (Q (suc n)) (up (suc n) h)

-- a type that passes is found
pub some_from : (n c : ℕ) (P : ℕ → Bool) → 0 < c → c < n → P c ≡ true → some_type n P ≡ true
some_from zero c P some lt e = absurd (omega arith)
some_from (suc zero) c P some lt e = absurd (omega arith)
some_from (suc (suc n)) c P some lt e = go (cases_eq c (suc n)) (some_from (suc n) c P some)
  where
    go : ((c ≡ suc n) ⊎ (c ≡ suc n → ⊥)) → (c < suc n → P c ≡ true → some_type (suc n) P ≡ true) → (some_type (suc n) P || P (suc n)) ≡ true
    go (inl same) before = or_right (some_type (suc n) P) (P (suc n)) (sym (ap P same) ∙ e)
    go (inr other) before = or_left (some_type (suc n) P) (P (suc n)) (before (omega (arith, other)) e)

-- a place that passes is set in the row
pub in_word : (P : ℕ → Bool) (n j : ℕ) → j < n → P j ≡ true → IsIn (2 ^ j) (word_where P n)
in_word P zero j lt e = absurd (omega arith)
in_word P (suc n) j lt e = go (cases_eq j n) (in_word P n j)
  where
    go : ((j ≡ n) ⊎ (j ≡ n → ⊥)) → (j < n → P j ≡ true → IsIn (2 ^ j) (word_where P n)) → IsIn (2 ^ j) (bit_or (if P n then 2 ^ n else 0) (word_where P n))
    go (inl same) before = in_through (2 ^ j) (if P n then 2 ^ n else 0) (bit_or (if P n then 2 ^ n else 0) (word_where P n))
        (subst (λ (w : ℕ). IsIn (2 ^ j) w) (ap (λ (i : ℕ). 2 ^ i) same ∙ sym (cond-true (P n) (2 ^ n) 0 (sym (ap P same) ∙ e))) (in_itself (2 ^ j)))
        (in_left (if P n then 2 ^ n else 0) (word_where P n))
    go (inr other) before = in_through (2 ^ j) (word_where P n) (bit_or (if P n then 2 ^ n else 0) (word_where P n)) (before (omega (arith, other)) e) (in_right (if P n then 2 ^ n else 0) (word_where P n))

pub in_row : (P : ℕ → Bool) (b : ℕ) → P b ≡ true → IsWithin (bit_row b) (row_where P)
in_row P b e = record { each = λ k. go k (cases_eq k (b / 64)) }
  where
    go : (k : ℕ) → ((k ≡ b / 64) ⊎ (k ≡ b / 64 → ⊥)) → IsIn (if k == b / 64 then 2 ^ (b % 64) else 0) (row_where P k)
    go k (inl same) = subst (λ (w : ℕ). IsIn w (row_where P k)) (sym (cond-true (k == b / 64) (2 ^ (b % 64)) 0 (eq-eqb k (b / 64) same)))
        (in_word (λ j. P (k * 64 + j)) 64 (b % 64) (omega arith) (let place : k * 64 + b % 64 ≡ b = omega (arith, same) in ap P place ∙ e))
    go k (inr other) = subst (λ (w : ℕ). IsIn w (row_where P k)) (sym (cond-false (k == b / 64) (2 ^ (b % 64)) 0 (ne_eqb k (b / 64) other))) refl
