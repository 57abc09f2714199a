-- Rows that are joined into lists of words.
use Rattle.std.proofs.Common.{◌≡◌, ℕ, zero, suc, ◌+◌, ◌*◌, ◌<◌, ◌≤◌, Bool, true, false, List, length, slice_index, slice_set, bit_or, bit_and, ◌⊎◌, inl, inr, refl, sym, ap, ◌∙◌, arith, get_or-set_other, get_or-set_same, le-ltb}
use Rattle.std.specs.Int.{from_bool}
use Rattle.std.proofs.lemmas.Nat.Bits.{bit_at_or, same_from_bits}
use Rattle.std.proofs.lemmas.Nat.{ones-le}
use Rattle.wf_lattice.specs.Filters.{set_words}
use Rattle.wf_lattice.specs.Words.{IsIn, JoinsRow, JoinsBetween, JoinsSome, AreZero, either, both, types_of, flags_of, counted, nothing}
use Rattle.std.specs.Int.Bits.{or_zero_r, and_zero_l}
use Rattle.std.proofs.lemmas.Bool.{cases_lt}
use Rattle.wf_lattice.specs.Meaning.{types_if}
use Rattle.wf_lattice.proofs.BitLaws.{or_zero, and_grows, and_in_right, in_itself}
use Rattle.wf_lattice.proofs.RowLaws.{types_at, types_grow}

pub or_assoc : (a b c : ℕ) → bit_or (bit_or a b) c ≡ bit_or a (bit_or b c)
or_assoc a b c = same_from_bits (bit_or (bit_or a b) c) (bit_or a (bit_or b c))
    (λ k. omega (arith, bit_at_or (bit_or a b) c k, bit_at_or a b k, bit_at_or a (bit_or b c) k, bit_at_or b c k))

-- one row after another
pub joins_both : (f g : ℕ → ℕ) (old mid new : List ℕ) → length old ≡ length mid → JoinsRow f old mid → JoinsRow g mid new → JoinsRow (either f g) old new
joins_both f g old mid new len p q = record {
  each = λ k lt.
      q.each k (omega arith) ∙ ap (λ (x : ℕ). bit_or x (g k)) (p.each k lt) ∙ or_assoc (slice_index old k) (f k) (g k);
}

pub types_past : (k : ℕ) (v : ℕ → ℕ) → 0 < k → types_of v k ≡ v k
types_past zero v lt = absurd (omega arith)
types_past (suc k) v lt = refl

pub flags_past : (k : ℕ) (s n : Bool) → 0 < k → flags_of s n k ≡ 0
flags_past zero s n lt = absurd (omega arith)
flags_past (suc k) s n lt = refl

pub flags_bytes : (s n : Bool) → from_bool s + 2 * from_bool n ≡ flags_of s n 0
flags_bytes true true = refl
flags_bytes true false = refl
flags_bytes false true = refl
flags_bytes false false = refl

-- the first word joined with the flags
pub joins_flags : (words : List ℕ) (s n : Bool) (w : ℕ) → w ≡ flags_of s n 0 → 0 < length words → JoinsRow (flags_of s n) words (slice_set words 0 (bit_or (slice_index words 0) w))
joins_flags words s n w e there = record { each = each }
  where
    each : (k : ℕ) → k < length words → slice_index (slice_set words 0 (bit_or (slice_index words 0) w)) k ≡ bit_or (slice_index words k) (flags_of s n k)
    each zero lt = get_or-set_same words 0 (bit_or (slice_index words 0) w) 0 lt ∙ ap (λ (x : ℕ). bit_or (slice_index words 0) x) e
    each (suc k) lt = get_or-set_other words 0 (suc k) (bit_or (slice_index words 0) w) 0 (λ z. absurd (omega (arith, z))) ∙ sym (or_zero (slice_index words (suc k)))

pub counted_nothing : (n : ℕ) → counted n nothing ≡ 0
counted_nothing zero = refl
counted_nothing (suc n) = omega (arith, counted_nothing n, ones-le 0 0 (omega arith))

-- null alone is the set without a type
pub joins_null : (most n : ℕ) (null : Bool) (old new : List ℕ) → JoinsRow (flags_of false null) old new → JoinsRow (set_words most n nothing null) old new
joins_null most n null old new j = record {
  each = λ k lt. j.each k lt
      ∙ ap (λ (s : Bool). bit_or (slice_index old k) (flags_of s null k)) (sym (le-ltb most (counted n nothing) (omega (arith, counted_nothing n))));
}

-- first up to a place, and then from there on
pub joined_on : (f : ℕ → ℕ) (k n : ℕ) (old mid new : List ℕ) → k ≤ n → JoinsBetween f 0 k old mid → JoinsBetween f k n mid new → JoinsBetween f 0 n old new
joined_on f k n old mid new le a b = record {
  before = λ i lt. absurd (omega (arith, lt));
  below = λ i zero lt. below i lt (cases_lt i k);
  from = λ i h. b.from i h ∙ a.from i (omega (arith, le, h));
}
  where
    below : (i : ℕ) → i < n → ((i < k) ⊎ (k ≤ i)) → slice_index new i ≡ bit_or (slice_index old i) (f i)
    below i lt (inl l) = b.before i l ∙ a.below i (omega arith) l
    below i lt (inr h) = b.below i h lt ∙ ap (λ (w : ℕ). bit_or w (f i)) (a.from i h)

-- where a set has no bit nothing is joined
pub zeros_joined : (value inst mask : ℕ → ℕ) (k : ℕ) (old new : List ℕ) → 1 ≤ k → AreZero value k → JoinsBetween (both (types_if false value inst) mask) 0 k old new → JoinsBetween (both (types_if false value inst) mask) 0 (k + 8) old new
zeros_joined value inst mask k old new le z j = record {
  before = λ i lt. absurd (omega (arith, lt));
  below = λ i zero lt. below i lt (cases_lt i k);
  from = λ i lt. j.from i (omega (arith, lt));
}
  where
    below : (i : ℕ) → i < k + 8 → ((i < k) ⊎ (k ≤ i)) → slice_index new i ≡ bit_or (slice_index old i) (both (types_if false value inst) mask i)
    below i lt (inl l) = j.below i (omega arith) l
    below i lt (inr h) =
        let meant : types_if false value inst i ≡ 0 = types_at i (λ n. bit_and (value n) (inst n)) (omega (arith, le, h)) ∙ ap (λ (w : ℕ). bit_and w (inst i)) (z.each i h lt) ∙ and_zero_l (inst i) in
        let nothing_there : both (types_if false value inst) mask i ≡ 0 = ap (λ (w : ℕ). bit_and w (mask i)) meant ∙ and_zero_l (mask i) in
        j.from i h ∙ sym (or_zero_r (slice_index old i)) ∙ ap (λ (w : ℕ). bit_or (slice_index old i) w) (sym nothing_there)

-- all words are joined
pub all_joined : (f : ℕ → ℕ) (n : ℕ) (old new : List ℕ) → length old ≡ n → JoinsBetween f 0 n old new → JoinsRow f old new
all_joined f n old new e j = record { each = λ k lt. j.below k (omega arith) (omega (arith, lt, e)) }

-- what of a set is made and in the mask is some of what is made and in the mask
pub part_joined : (value inst mask : ℕ → ℕ) (n : ℕ) (old new : List ℕ) → JoinsBetween (both (types_if false value inst) mask) 0 n old new → JoinsSome (both (types_of inst) mask) old new
part_joined value inst mask n old new j = record { each = λ k lt. each k (cases_lt k n) }
  where
    part : (k : ℕ) → IsIn (both (types_if false value inst) mask k) (both (types_of inst) mask k)
    part k = and_grows (types_if false value inst k) (mask k) (types_of inst k) (mask k)
        ((types_grow (λ i. bit_and (value i) (inst i)) inst (record { each = λ i. and_in_right (value i) (inst i) })).each k) (in_itself (mask k))

    each : (k : ℕ) → ((k < n) ⊎ (n ≤ k)) → bit_or (slice_index new k) (both (types_of inst) mask k) ≡ bit_or (slice_index old k) (both (types_of inst) mask k)
    each k (inl l) = ap (λ (w : ℕ). bit_or w (both (types_of inst) mask k)) (j.below k (omega arith) l)
        ∙ or_assoc (slice_index old k) (both (types_if false value inst) mask k) (both (types_of inst) mask k)
        ∙ ap (λ (w : ℕ). bit_or (slice_index old k) w) (part k)
    each k (inr h) = ap (λ (w : ℕ). bit_or w (both (types_of inst) mask k)) (j.from k h)

-- the whole row, after some of it
pub some_then_all : (f : ℕ → ℕ) (old mid new : List ℕ) → length old ≡ length mid → JoinsSome f old mid → JoinsRow f mid new → JoinsRow f old new
some_then_all f old mid new len s j = record { each = λ k lt. j.each k (omega (arith, lt, len)) ∙ s.each k lt }
