-- The order of values and the join of two.
use Rattle.std.proofs.Common.{false, refl, ◌<◌, zero, suc, count_ones, ◌≡◌, ℕ, ◌==◌, ◌^◌, ◌%◌, ◌/◌, eqb-true, eq-eqb, true, ◌⊎◌, inl, inr, nat_lt, bit_and, sym, ap, ◌∙◌, arith, ltb-true, lt-ltb}
use Rattle.std.proofs.lemmas.Bool.{and_parts, or_cases, or_left, or_right, not-true, not_from_false, false_from_ne_true, true≢false}
use Rattle.std.specs.Int.{bit_at}
use Rattle.std.proofs.lemmas.Nat.{or_mod, or_shr, ones-le}
use Rattle.std.proofs.lemmas.Nat.Bits.{bit_at-zero}
use Rattle.wf_lattice.specs.declared.kind.NodeKind.{NodeKind}
use Rattle.wf_lattice.specs.declared.kind.NodeKind.TheVariants.{Token, Int, Long, Refs, Inst, Links}
use Rattle.wf_lattice.specs.Words.{IsIn, IsWithin, has_bit, is_empty, counted, types_of, either}
use Rattle.wf_lattice.specs.Order.{is_saturated, is_full, Receives}
use Rattle.wf_lattice.specs.Ints.{low_half, high_half, is_any}
use Rattle.wf_lattice.proofs.BitLaws.{and_grows}
use Rattle.wf_lattice.proofs.RowLaws.{within_itself, within_through, either_within, types_grow, counted_grows, bit_grows, nonempty_grows, word_of_nothing, word_there, types_within}

pub saturated_grows : (most n : ℕ) (f v : ℕ → ℕ) → IsWithin f v → is_saturated most n f ≡ true → is_saturated most n v ≡ true
saturated_grows most n f v p e = go (or_cases (has_bit f 0) (nat_lt most (counted n (types_of f))) e)
  where
    go : ((has_bit f 0 ≡ true) ⊎ (nat_lt most (counted n (types_of f)) ≡ true)) → is_saturated most n v ≡ true
    go (inl h) = or_left (has_bit v 0) (nat_lt most (counted n (types_of v))) (bit_grows f v 0 p h)
    go (inr h) = or_right (has_bit v 0) (nat_lt most (counted n (types_of v)))
        (lt-ltb most (counted n (types_of v)) (omega (arith, ltb-true most (counted n (types_of f)) h, counted_grows n (types_of f) (types_of v) (types_grow f v p))))

pub low_grows : (a b : ℕ) → IsIn a b → IsIn (low_half a) (low_half b)
low_grows a b p = sym (or_mod a b 32) ∙ ap (λ (n : ℕ). n % 2 ^ 32) p

pub high_grows : (a b : ℕ) → IsIn a b → IsIn (high_half a) (high_half b)
high_grows a b p = sym (ap (λ (n : ℕ). n % 2 ^ 32) (or_shr a b 32) ∙ or_mod (a / 2 ^ 32) (b / 2 ^ 32) 32) ∙ ap (λ (n : ℕ). n / 2 ^ 32 % 2 ^ 32) p

pub any_grows : (a b : ℕ) → IsIn a b → is_any a ≡ true → is_any b ≡ true
any_grows a b p e = not_from_false (bit_and (low_half b) (high_half b) == 0)
    (false_from_ne_true (bit_and (low_half b) (high_half b) == 0)
    (λ z. true≢false (sym (eq-eqb (bit_and (low_half a) (high_half a)) 0 (halves z)) ∙ not-true (bit_and (low_half a) (high_half a) == 0) e)))
  where
    halves : (bit_and (low_half b) (high_half b) == 0) ≡ true → bit_and (low_half a) (high_half a) ≡ 0
    halves z = word_of_nothing (bit_and (low_half a) (high_half a)) (bit_and (low_half b) (high_half b))
        (and_grows (low_half a) (high_half a) (low_half b) (high_half b) (low_grows a b p) (high_grows a b p))
        (eqb-true (bit_and (low_half b) (high_half b)) 0 z)

-- what is full stays full
pub full_within : (most n : ℕ) (kind : NodeKind) (f v : ℕ → ℕ) → IsWithin f v → is_full most n kind f ≡ true → is_full most n kind v ≡ true
full_within most n Token f v p e = not_from_false (is_empty n v) (nonempty_grows n f v p (not-true (is_empty n f) e))
full_within most n Int f v p e = any_grows (f 0) (v 0) (p.each 0) e
full_within most n Long f v p e = not_from_false (is_empty n v) (nonempty_grows n f v p (not-true (is_empty n f) e))
full_within most n Refs f v p e = saturated_grows most n f v p e
full_within most n Inst f v p e = absurd cc
full_within most n Links f v p e = absurd cc

pub receives_itself : (most n : ℕ) (kind : NodeKind) (f : ℕ → ℕ) → Receives most n kind f f
receives_itself most n kind f = inr (within_itself f)

pub receives_through : (most n : ℕ) (kind : NodeKind) (f g h : ℕ → ℕ) → Receives most n kind f g → Receives most n kind g h → Receives most n kind f h
receives_through most n kind f g h p (inl full) = inl full
receives_through most n kind f g h (inl full) (inr q) = inl (full_within most n kind g h q full)
receives_through most n kind f g h (inr p) (inr q) = inr (within_through f g h p q)

pub receives_either : (most n : ℕ) (kind : NodeKind) (f g v : ℕ → ℕ) → Receives most n kind f v → Receives most n kind g v → Receives most n kind (either f g) v
receives_either most n kind f g v (inl full) q = inl full
receives_either most n kind f g v (inr p) (inl full) = inl full
receives_either most n kind f g v (inr p) (inr q) = inr (either_within f g v p q)

counted_of_empty : (n : ℕ) (v : ℕ → ℕ) → is_empty n v ≡ true → counted n (types_of v) ≡ 0
counted_of_empty zero v e = refl
counted_of_empty (suc n) v e =
    let parts : (is_empty n v ≡ true) × ((v n == 0) ≡ true) = and_parts (is_empty n v) (v n == 0) e in
    let word : types_of v n ≡ 0 = word_of_nothing (types_of v n) (v n) ((types_within v).each n) (eqb-true (v n) 0 parts.1) in
    omega (arith, counted_of_empty n v parts.0, ap (λ (w : ℕ). count_ones w) word, ones-le 0 0 (omega arith))

bit_in_nothing : (v : ℕ → ℕ) (b : ℕ) → v (b / 64) ≡ 0 → has_bit v b ≡ true → ⊥
bit_in_nothing v b z e = absurd (omega (arith, eqb-true (bit_at (v (b / 64)) (b % 64)) 1 e, ap (λ (w : ℕ). bit_at w (b % 64)) z, bit_at-zero (b % 64)))

-- what is full isn't empty
pub full_is_there : (most n : ℕ) (kind : NodeKind) (v : ℕ → ℕ) → 0 < n → is_full most n kind v ≡ true → is_empty n v ≡ false
full_is_there most n Token v some e = not-true (is_empty n v) e
full_is_there most n Int v some e = word_there n 0 v some (λ z. true≢false (sym e ∙ ap is_any z))
full_is_there most n Long v some e = not-true (is_empty n v) e
full_is_there most n Refs v some e = go (or_cases (has_bit v 0) (nat_lt most (counted n (types_of v))) e)
  where
    go : ((has_bit v 0 ≡ true) ⊎ (nat_lt most (counted n (types_of v)) ≡ true)) → is_empty n v ≡ false
    go (inl h) = word_there n 0 v some (λ z. bit_in_nothing v 0 z h)
    go (inr h) = false_from_ne_true (is_empty n v) (λ none. absurd (omega (arith, ltb-true most (counted n (types_of v)) h, counted_of_empty n v none)))
full_is_there most n Inst v some e = absurd cc
full_is_there most n Links v some e = absurd cc

-- a value that rises is there where it was
pub there_rises : (most n : ℕ) (kind : NodeKind) (f v : ℕ → ℕ) → 0 < n → Receives most n kind f v → is_empty n f ≡ false → is_empty n v ≡ false
there_rises most n kind f v some (inl full) e = full_is_there most n kind v some full
there_rises most n kind f v some (inr p) e = nonempty_grows n f v p e
