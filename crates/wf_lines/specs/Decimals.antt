-- Decimals in words (this project's own).
use Rattle.std.specs.Prelude.{ℕ, ◌+◌, ◌-◌, ◌*◌, ◌^◌, ℤ, pos, ◌-ℤ◌, int_le, Bool, ◌&&◌, List, [], ◌∷◌, Option, Some, None, ◌==◌, nat_le, nat_lt, option_and_then, option_map, if◌then◌else◌}

abbrev pub is_digit : ℕ → Bool
is_digit b = nat_le 48 b && nat_le b 57

-- a number that goes on in these digits
abbrev pub value_from : ℕ → List ℕ → Option ℕ
value_from n [] = Some n
value_from n (b ∷ bytes) = if is_digit b then value_from (n * 10 + (b - 48)) bytes else None

-- a number that a word of 64 bits has
abbrev pub in_word : ℕ → Option ℕ
in_word n = if nat_lt n (2 ^ 64) then Some n else None

-- the number behind one more digit, where a word of 64 bits has it
abbrev pub digit_on : ℕ → ℕ → Option ℕ
digit_on n b = if is_digit b then in_word (n * 10 + (b - 48)) else None

-- a decimal without leading zeros
abbrev pub natural_of : List ℕ → Option ℕ
natural_of [] = None
natural_of (b ∷ []) = value_from 0 (b ∷ [])
natural_of (b ∷ c ∷ bytes) = if b == 48 then None else value_from 0 (b ∷ c ∷ bytes)

-- the same with `-` before it, where it isn't 0
abbrev pub negative_of : Option ℕ → Option ℤ
negative_of None = None
negative_of (Some n) = if n == 0 then None else Some (pos 0 -ℤ pos n)

-- a decimal with `-` before it or without
abbrev pub integer_of : List ℕ → Option ℤ
integer_of [] = None
integer_of (b ∷ bytes) = if b == 45 then negative_of (natural_of bytes) else option_map (λ n. pos n) (natural_of (b ∷ bytes))

-- a number that is at most so much
abbrev pub at_most : ℕ → ℕ → Option ℕ
at_most most n = if nat_le n most then Some n else None

-- a number from least to most
abbrev pub within : ℤ → ℤ → ℤ → Option ℤ
within least most n = if int_le least n && int_le n most then Some n else None

-- the numbers of 64 bits
abbrev pub as_long : ℤ → Option ℤ
as_long n = within (pos 0 -ℤ pos (2 ^ 63)) (pos (2 ^ 63) -ℤ pos 1) n

-- the decimal that a word is, where it is at most so much
abbrev pub natural_in : ℕ → List ℕ → Option ℕ
natural_in most word = option_and_then (at_most most) (natural_of word)

-- the same for a number that may be negative
abbrev pub integer_in : ℤ → ℤ → List ℕ → Option ℤ
integer_in least most word = option_and_then (within least most) (integer_of word)
