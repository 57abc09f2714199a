-- Rows of words: what grows with them, and their bits.
use Rattle.std.proofs.Common.{List, length, get_or, take, drop, get_or-take, get_or-drop, add_comm, ◌≡◌, ℕ, zero, suc, ◌+◌, ◌-◌, ◌/◌, ◌%◌, ◌^◌, ◌≤◌, ◌<◌, true, false, ◌⊎◌, inl, inr, ◌==◌, count_ones, bit_or, refl, sym, ap, ◌∙◌, arith, eqb-true, eq-eqb, add-one, ne_eqb}
use Rattle.std.specs.Int.{bit_at}
use Rattle.std.proofs.lemmas.Bool.{and_parts, and_from, and_left, and_right, cases_eq, false_from_ne_true, true≢false}
use Rattle.std.proofs.lemmas.Nat.{le_or_l, le_or_r, ones-le}
use Rattle.std.proofs.lemmas.Nat.Bits.{bit_at-lt}
use Rattle.wf_lattice.specs.Words.{IsIn, IsWithin, AreZero, has_bit, is_empty, counted, types_of, both, either, nothing}
use Rattle.wf_lattice.proofs.BitLaws.{in_bits, in_itself, in_through, in_left, in_right, or_in, or_grows, and_grows, and_in_left, ones_in}

pub within_itself : (f : ℕ → ℕ) → IsWithin f f
within_itself f = record { each = λ k. in_itself (f k) }

pub within_through : (f g h : ℕ → ℕ) → IsWithin f g → IsWithin g h → IsWithin f h
within_through f g h p q = record { each = λ k. in_through (f k) (g k) (h k) (p.each k) (q.each k) }

pub either_left : (f g : ℕ → ℕ) → IsWithin f (either f g)
either_left f g = record { each = λ k. in_left (f k) (g k) }

pub either_right : (f g : ℕ → ℕ) → IsWithin g (either f g)
either_right f g = record { each = λ k. in_right (f k) (g k) }

pub either_within : (f g h : ℕ → ℕ) → IsWithin f h → IsWithin g h → IsWithin (either f g) h
either_within f g h p q = record { each = λ k. or_in (f k) (g k) (h k) (p.each k) (q.each k) }

pub either_grows : (f g h i : ℕ → ℕ) → IsWithin f h → IsWithin g i → IsWithin (either f g) (either h i)
either_grows f g h i p q = record { each = λ k. or_grows (f k) (g k) (h k) (i k) (p.each k) (q.each k) }

pub both_grows : (f g h i : ℕ → ℕ) → IsWithin f h → IsWithin g i → IsWithin (both f g) (both h i)
both_grows f g h i p q = record { each = λ k. and_grows (f k) (g k) (h k) (i k) (p.each k) (q.each k) }

pub nothing_within : (f : ℕ → ℕ) → IsWithin nothing f
nothing_within f = record { each = λ k. refl }

pub types_grow : (f g : ℕ → ℕ) → IsWithin f g → IsWithin (types_of f) (types_of g)
types_grow f g p = record { each = go }
  where
    go : (k : ℕ) → IsIn (types_of f k) (types_of g k)
    go zero = and_grows (f 0) (2 ^ 64 - 4) (g 0) (2 ^ 64 - 4) (p.each 0) (in_itself (2 ^ 64 - 4))
    go (suc k) = p.each (suc k)

pub types_within : (f : ℕ → ℕ) → IsWithin (types_of f) f
types_within f = record { each = go }
  where
    go : (k : ℕ) → IsIn (types_of f k) (f k)
    go zero = and_in_left (f 0) (2 ^ 64 - 4)
    go (suc k) = in_itself (f (suc k))

pub counted_grows : (n : ℕ) (f g : ℕ → ℕ) → IsWithin f g → counted n f ≤ counted n g
counted_grows zero f g p = omega arith
counted_grows (suc n) f g p = omega (arith, counted_grows n f g p, ones_in (f n) (g n) (p.each n))

pub bit_grows : (f g : ℕ → ℕ) (b : ℕ) → IsWithin f g → has_bit f b ≡ true → has_bit g b ≡ true
bit_grows f g b p e =
    let up : bit_at (f (b / 64)) (b % 64) ≤ bit_at (g (b / 64)) (b % 64) = in_bits (f (b / 64)) (g (b / 64)) (b % 64) (p.each (b / 64)) in
    let one : bit_at (f (b / 64)) (b % 64) ≡ 1 = eqb-true (bit_at (f (b / 64)) (b % 64)) 1 e in
    eq-eqb (bit_at (g (b / 64)) (b % 64)) 1 (omega (arith, up, one, bit_at-lt (g (b / 64)) (b % 64)))

pub word_of_nothing : (a b : ℕ) → IsIn a b → b ≡ 0 → a ≡ 0
word_of_nothing a b p e = omega (arith, Rattle.std.proofs.lemmas.Nat.le_or_l a b, p)

pub empty_falls : (n : ℕ) (f g : ℕ → ℕ) → IsWithin f g → is_empty n g ≡ true → is_empty n f ≡ true
empty_falls zero f g p e = refl
empty_falls (suc n) f g p e =
    let parts : (is_empty n g ≡ true) × ((g n == 0) ≡ true) = and_parts (is_empty n g) (g n == 0) e in
    and_from (is_empty n f) (f n == 0) (empty_falls n f g p parts.0)
    (eq-eqb (f n) 0 (word_of_nothing (f n) (g n) (p.each n) (eqb-true (g n) 0 parts.1)))

pub nonempty_grows : (n : ℕ) (f g : ℕ → ℕ) → IsWithin f g → is_empty n f ≡ false → is_empty n g ≡ false
nonempty_grows n f g p e = false_from_ne_true (is_empty n g) (λ h. true≢false (sym (empty_falls n f g p h) ∙ e))

-- a word that isn't 0 is in a row that isn't empty
pub word_there : (n k : ℕ) (v : ℕ → ℕ) → k < n → (v k ≡ 0 → ⊥) → is_empty n v ≡ false
word_there zero k v lt ne = absurd (omega arith)
word_there (suc n) k v lt ne = go (cases_eq k n) (word_there n k v)
  where
    go : ((k ≡ n) ⊎ (k ≡ n → ⊥)) → (k < n → (v k ≡ 0 → ⊥) → is_empty n v ≡ false) → is_empty (suc n) v ≡ false
    go (inl e) before = and_right (is_empty n v) (v n == 0) (ne_eqb (v n) 0 (λ z. ne (ap v e ∙ z)))
    go (inr d) before = and_left (is_empty n v) (v n == 0) (before (omega (arith, d)) ne)

-- counts grow with the number of words
pub counted_more : (m n : ℕ) (f : ℕ → ℕ) → m ≤ n → counted m f ≤ counted n f
counted_more m zero f le = let e : m ≡ 0 = omega arith in omega (arith, ap (λ (k : ℕ). counted k f) e)
counted_more m (suc n) f le = go (cases_eq m (suc n)) (counted_more m n f)
  where
    go : ((m ≡ suc n) ⊎ (m ≡ suc n → ⊥)) → (m ≤ n → counted m f ≤ counted n f) → counted m f ≤ counted (suc n) f
    go (inl e) before = omega (arith, ap (λ (k : ℕ). counted k f) e)
    go (inr d) before = omega (arith, d, before (omega (arith, d)))

pub counted_next : (k : ℕ) (f : ℕ → ℕ) → counted (suc (k + 1)) f ≡ counted (suc k) f + count_ones (f (suc k))
counted_next k f = rw (add-one k) refl

pub types_next : (k : ℕ) (v : ℕ → ℕ) → types_of v (k + 1) ≡ v (k + 1)
types_next k v = rw (add-one k) refl

-- the words after the first
pub rest_at : (words : List ℕ) (k : ℕ) → k < length words - 1 → get_or (take (length words - 1) (drop 1 words)) k 0 ≡ get_or words (k + 1) 0
rest_at words k lt = get_or-take (length words - 1) (drop 1 words) k 0 lt ∙ get_or-drop 1 words k 0 ∙ ap (λ (i : ℕ). get_or words i 0) (add_comm 1 k)

-- the types of the words after the first
pub types_at : (k : ℕ) (v : ℕ → ℕ) → 1 ≤ k → types_of v k ≡ v k
types_at zero v le = absurd (omega arith)
types_at (suc k) v le = refl

counted_step : (k : ℕ) (f : ℕ → ℕ) → counted (k + 1) f ≡ counted k f + count_ones (f k)
counted_step k f = rw (add-one k) refl

one_more : (k i : ℕ) (v : ℕ → ℕ) → 1 ≤ k → counted (k + (i + 1)) (types_of v) ≡ counted (k + i) (types_of v) + count_ones (v (k + i))
one_more k i v le =
    let at : k + (i + 1) ≡ (k + i) + 1 = omega arith in
    ap (λ (j : ℕ). counted j (types_of v)) at
    ∙ counted_step (k + i) (types_of v)
    ∙ ap (λ (w : ℕ). counted (k + i) (types_of v) + count_ones w) (types_at (k + i) v (omega arith))

-- eight words more
pub eight_more : (k : ℕ) (v : ℕ → ℕ) → 1 ≤ k → counted (k + 8) (types_of v) ≡ counted k (types_of v) + (count_ones (v k) + count_ones (v (k + 1)) + count_ones (v (k + 2)) + count_ones (v (k + 3)) + count_ones (v (k + 4)) + count_ones (v (k + 5)) + count_ones (v (k + 6)) + count_ones (v (k + 7)))
eight_more k v le =
    let none : counted (k + 0) (types_of v) ≡ counted k (types_of v) = ap (λ (j : ℕ). counted j (types_of v)) (omega arith) in
    let first : count_ones (v (k + 0)) ≡ count_ones (v k) = ap (λ (j : ℕ). count_ones (v j)) (omega arith) in
    omega (arith, none, first, one_more k 0 v le, one_more k 1 v le, one_more k 2 v le, one_more k 3 v le, one_more k 4 v le, one_more k 5 v le, one_more k 6 v le, one_more k 7 v le)

no_more : (x m : ℕ) → x ≤ m → m ≡ 0 → x ≡ 0
no_more x m le e = omega (arith, le, e)

-- four words whose OR is 0
record AreNone (a b c d : ℕ) : Type 0 where
  pub one : a ≡ 0
  pub two : b ≡ 0
  pub three : c ≡ 0
  pub four : d ≡ 0

four_zeros : (a b c d : ℕ) → bit_or (bit_or (bit_or a b) c) d ≡ 0 → AreNone a b c d
four_zeros a b c d e =
    let ab : ℕ = bit_or a b in
    let abc : ℕ = bit_or ab c in
    let abcd : ℕ = bit_or abc d in
    let l : abc ≤ abcd = le_or_l abc d in
    let m : ab ≤ abc = le_or_l ab c in
    record {
      one = no_more a abcd (omega (arith, l, m, le_or_l a b)) e;
      two = no_more b abcd (omega (arith, l, m, le_or_r a b)) e;
      three = no_more c abcd (omega (arith, l, le_or_r ab c)) e;
      four = no_more d abcd (le_or_r abc d) e;
    }

-- a place among eight
at_eight : (v : ℕ → ℕ) (k i : ℕ) → k ≤ i → i < k + 8 → v k ≡ 0 → v (k + 1) ≡ 0 → v (k + 2) ≡ 0 → v (k + 3) ≡ 0 → v (k + 4) ≡ 0 → v (k + 5) ≡ 0 → v (k + 6) ≡ 0 → v (k + 7) ≡ 0 → v i ≡ 0
at_eight v k i le lt a b c d e f g h = go (cases_eq i k) (cases_eq i (k + 1)) (cases_eq i (k + 2)) (cases_eq i (k + 3)) (cases_eq i (k + 4)) (cases_eq i (k + 5)) (cases_eq i (k + 6)) (cases_eq i (k + 7))
  where
    go : ((i ≡ k) ⊎ (i ≡ k → ⊥)) → ((i ≡ k + 1) ⊎ (i ≡ k + 1 → ⊥)) → ((i ≡ k + 2) ⊎ (i ≡ k + 2 → ⊥)) → ((i ≡ k + 3) ⊎ (i ≡ k + 3 → ⊥)) → ((i ≡ k + 4) ⊎ (i ≡ k + 4 → ⊥)) → ((i ≡ k + 5) ⊎ (i ≡ k + 5 → ⊥)) → ((i ≡ k + 6) ⊎ (i ≡ k + 6 → ⊥)) → ((i ≡ k + 7) ⊎ (i ≡ k + 7 → ⊥)) → v i ≡ 0
    go (inl s) _ _ _ _ _ _ _ = ap v s ∙ a
    go (inr n) (inl s) _ _ _ _ _ _ = ap v s ∙ b
    go (inr n) (inr o) (inl s) _ _ _ _ _ = ap v s ∙ c
    go (inr n) (inr o) (inr p) (inl s) _ _ _ _ = ap v s ∙ d
    go (inr n) (inr o) (inr p) (inr q) (inl s) _ _ _ = ap v s ∙ e
    go (inr n) (inr o) (inr p) (inr q) (inr r) (inl s) _ _ = ap v s ∙ f
    go (inr n) (inr o) (inr p) (inr q) (inr r) (inr t) (inl s) _ = ap v s ∙ g
    go (inr n) (inr o) (inr p) (inr q) (inr r) (inr t) (inr u) (inl s) = ap v s ∙ h
    go (inr n) (inr o) (inr p) (inr q) (inr r) (inr t) (inr u) (inr w) = absurd (omega (arith, n, o, p, q, r, t, u, w))

-- eight words whose OR is 0
pub eight_are_zero : (v : ℕ → ℕ) (k : ℕ) → bit_or (bit_or (bit_or (bit_or (v k) (v (k + 1))) (v (k + 2))) (v (k + 3))) (bit_or (bit_or (bit_or (v (k + 4)) (v (k + 5))) (v (k + 6))) (v (k + 7))) ≡ 0 → AreZero v k
eight_are_zero v k z =
    let low : ℕ = bit_or (bit_or (bit_or (v k) (v (k + 1))) (v (k + 2))) (v (k + 3)) in
    let high : ℕ = bit_or (bit_or (bit_or (v (k + 4)) (v (k + 5))) (v (k + 6))) (v (k + 7)) in
    let l : AreNone (v k) (v (k + 1)) (v (k + 2)) (v (k + 3)) = four_zeros (v k) (v (k + 1)) (v (k + 2)) (v (k + 3)) (no_more low (bit_or low high) (le_or_l low high) z) in
    let h : AreNone (v (k + 4)) (v (k + 5)) (v (k + 6)) (v (k + 7)) = four_zeros (v (k + 4)) (v (k + 5)) (v (k + 6)) (v (k + 7)) (no_more high (bit_or low high) (le_or_r low high) z) in
    record { each = λ i le lt. at_eight v k i le lt l.one l.two l.three l.four h.one h.two h.three h.four }

no_ones : (x : ℕ) → x ≡ 0 → count_ones x ≡ 0
no_ones x e = omega (arith, ap (λ (w : ℕ). count_ones w) e, ones-le 0 0 (omega arith))

-- eight words that are 0 have no bit
pub eight_zeros : (k : ℕ) (v : ℕ → ℕ) → 1 ≤ k → AreZero v k → counted (k + 8) (types_of v) ≡ counted k (types_of v)
eight_zeros k v le z =
    omega (
      arith,
      eight_more k v le,
      no_ones (v k) (z.each k (omega arith) (omega arith)),
      no_ones (v (k + 1)) (z.each (k + 1) (omega arith) (omega arith)),
      no_ones (v (k + 2)) (z.each (k + 2) (omega arith) (omega arith)),
      no_ones (v (k + 3)) (z.each (k + 3) (omega arith) (omega arith)),
      no_ones (v (k + 4)) (z.each (k + 4) (omega arith) (omega arith)),
      no_ones (v (k + 5)) (z.each (k + 5) (omega arith) (omega arith)),
      no_ones (v (k + 6)) (z.each (k + 6) (omega arith) (omega arith)),
      no_ones (v (k + 7)) (z.each (k + 7) (omega arith) (omega arith)),
    )
