-- A value is a row of 64-bit words, written as the function from a word's place to the word; from the end of the
-- row on it is 0. Bit b of the row is bit b % 64 of word b / 64. In a value of references bit 0 says that the value
-- is saturated, and bit t + 1 is type t, so that null, which is type 0, is bit 1 (this project's own).
use Rattle.std.specs.Prelude.{◌≡◌, ℕ, zero, suc, ◌+◌, ◌-◌, ◌/◌, ◌%◌, ◌^◌, ◌<◌, ◌≤◌, Bool, true, ◌&&◌, ◌==◌, if◌then◌else◌, List, length, slice_index, bit_and, bit_or, count_ones}
use Rattle.std.specs.Int.{bit_at, bit_not, w64}

-- the row that a list of words is
abbrev pub words_of : List ℕ → ℕ → ℕ
words_of words k = slice_index words k

-- each word has at most 64 bits
pub record AreWords (v : ℕ → ℕ) : Type 0 where
  pub each : (k : ℕ) → v k < 2 ^ 64

-- each bit of the first word is set in the second
abbrev pub IsIn : ℕ → ℕ → Type 0
IsIn a b = bit_or a b ≡ b

-- each bit of the first row is set in the second
pub record IsWithin (f v : ℕ → ℕ) : Type 0 where
  pub each : (k : ℕ) → IsIn (f k) (v k)

-- whether the bit is set
abbrev pub has_bit : (ℕ → ℕ) → ℕ → Bool
has_bit v b = bit_at (v (b / 64)) (b % 64) == 1

-- whether the type's bit is set
abbrev pub has_type : (ℕ → ℕ) → ℕ → Bool
has_type v t = has_bit v (t + 1)

-- no bit of the first n words is set
abbrev pub is_empty : ℕ → (ℕ → ℕ) → Bool
is_empty zero v = true
is_empty (suc n) v = is_empty n v && (v n == 0)

-- how many bits of the first n words are set
abbrev pub counted : ℕ → (ℕ → ℕ) → ℕ
counted zero v = 0
counted (suc n) v = counted n v + count_ones (v n)

-- the row without bits 0 and 1: the types other than null
abbrev pub types_of : (ℕ → ℕ) → ℕ → ℕ
types_of v zero = bit_and (v 0) (2 ^ 64 - 4)
types_of v (suc k) = v (suc k)

-- the row of bits 0 and 1: saturated, and null
abbrev pub flags_of : Bool → Bool → ℕ → ℕ
flags_of saturated null zero = (if saturated then 1 else 0) + (if null then 2 else 0)
flags_of saturated null (suc k) = 0

-- the bits of both rows, those of either, and those of the first that the second lacks
abbrev pub both : (ℕ → ℕ) → (ℕ → ℕ) → ℕ → ℕ
both f g k = bit_and (f k) (g k)

abbrev pub either : (ℕ → ℕ) → (ℕ → ℕ) → ℕ → ℕ
either f g k = bit_or (f k) (g k)

abbrev pub without : (ℕ → ℕ) → (ℕ → ℕ) → ℕ → ℕ
without f g k = bit_and (f k) (bit_not w64 (g k))

-- the row of one word
abbrev pub one_word : ℕ → ℕ → ℕ
one_word word zero = word
one_word word (suc k) = 0

-- the row without a bit
abbrev pub nothing : ℕ → ℕ
nothing k = 0

-- the second list is the first with a row joined into its words
pub record JoinsRow (f : ℕ → ℕ) (old new : List ℕ) : Type 0 where
  pub each : (k : ℕ) → k < length old → slice_index new k ≡ bit_or (slice_index old k) (f k)

-- the words between two places are joined, and the others are as before
pub record JoinsBetween (f : ℕ → ℕ) (first n : ℕ) (old new : List ℕ) : Type 0 where
  pub before : (k : ℕ) → k < first → slice_index new k ≡ slice_index old k
  pub below : (k : ℕ) → first ≤ k → k < n → slice_index new k ≡ bit_or (slice_index old k) (f k)
  pub from : (k : ℕ) → n ≤ k → slice_index new k ≡ slice_index old k

-- some bits of a row are joined and no others: with the whole row joined the two lists are the same
pub record JoinsSome (f : ℕ → ℕ) (old new : List ℕ) : Type 0 where
  pub each : (k : ℕ) → k < length old → bit_or (slice_index new k) (f k) ≡ bit_or (slice_index old k) (f k)

-- the eight words from a place on are 0
pub record AreZero (v : ℕ → ℕ) (k : ℕ) : Type 0 where
  pub each : (i : ℕ) → k ≤ i → i < k + 8 → v i ≡ 0
