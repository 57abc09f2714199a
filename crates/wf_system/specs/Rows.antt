-- Rows of words that are made bit by bit.
use Rattle.std.specs.Prelude.{ℕ, zero, suc, ◌+◌, ◌*◌, ◌^◌, ◌/◌, ◌%◌, Bool, ◌==◌, if◌then◌else◌, bit_or}

-- the row of one bit
abbrev pub bit_row : ℕ → ℕ → ℕ
bit_row b k = (if k == b / 64 then 2 ^ (b % 64) else 0)

-- the row of one type
abbrev pub type_row : ℕ → ℕ → ℕ
type_row t = bit_row (t + 1)

-- the first `places` bits of a word of which P says what is set
abbrev pub word_where : (ℕ → Bool) → ℕ → ℕ
word_where P zero = 0
word_where P (suc places) = bit_or (if P places then 2 ^ places else 0) (word_where P places)

-- the row of the bits of which P says that they are set
abbrev pub row_where : (ℕ → Bool) → ℕ → ℕ
row_where P k = word_where (λ j. P (k * 64 + j)) 64
