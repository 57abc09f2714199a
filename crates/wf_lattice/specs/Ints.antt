-- Values of ints: empty, one constant, or any, in this order (after SkipFlow, CGO 2025). Their words have two
-- halves: a constant has itself in the low half and its complement in the high half, so that the OR of two constants
-- has some position set in both halves, and that says 'any' (this project's own).
use Rattle.std.specs.Prelude.{◌≡◌, ◌≢◌, ℕ, ◌+◌, ◌-◌, ◌*◌, ◌/◌, ◌%◌, ◌^◌, Bool, not, ◌⊎◌, ◌==◌, if◌then◌else◌, ℤ, List, bit_and, bit_or}
use Rattle.std.specs.Int.{w32, cast_signed, cast_unsigned}
use Rattle.std.specs.List.{list_any}
use Rattle.std.specs.Ordering.{int_eq}
use Rattle.wf_base.specs.declared.cmp.Cmp.{Cmp}
use Rattle.wf_base.specs.declared.cmp.Cmp.TheVariants.{Eq, Ne, Lt, Ge, Gt, Le}
use Rattle.wf_base.specs.Comparisons.{compares}
use Rattle.wf_lattice.specs.declared.int_word.IntValue.{IntValue}
use Rattle.wf_lattice.specs.declared.int_word.IntValue.TheVariants.{Empty, Is, Any}

-- the halves of a word
abbrev pub low_half : ℕ → ℕ
low_half word = word % 2 ^ 32

abbrev pub high_half : ℕ → ℕ
high_half word = word / 2 ^ 32 % 2 ^ 32

-- some position is set in both halves
abbrev pub is_any : ℕ → Bool
is_any word = not (bit_and (low_half word) (high_half word) == 0)

-- each position is set in some half
abbrev pub is_whole : ℕ → Bool
is_whole word = bit_or (low_half word) (high_half word) == 2 ^ 32 - 1

-- the value of a word: any where a position is set in both halves, else a constant where each is set in one, else empty
abbrev pub int_value : ℕ → IntValue
int_value word = (if is_any word then Any else (if is_whole word then Is (cast_signed w32 (low_half word)) else Empty))

-- the word of a constant
abbrev pub constant_word : ℤ → ℕ
constant_word c = (2 ^ 32 - 1 - cast_unsigned w32 c) * 2 ^ 32 + cast_unsigned w32 c

-- the word that is written for a value
abbrev pub word_of : IntValue → ℕ
word_of Empty = 0
word_of (Is c) = constant_word c
word_of Any = 2 ^ 64 - 1

-- the word is 0 or has a constant or any as its value: it is no word that is partly written
abbrev pub IsSettled : ℕ → Type 0
IsSettled word = (word ≡ 0) ⊎ (int_value word ≢ Empty)

-- the order of int values; two constants aren't ordered
infixl 20 ◌⊑◌
abbrev pub ◌⊑◌ : IntValue → IntValue → Type 0
Empty ⊑ b = Unit {0}
(Is c) ⊑ Empty = ⊥
(Is c) ⊑ (Is d) = c ≡ d
(Is c) ⊑ Any = Unit {0}
Any ⊑ Empty = ⊥
Any ⊑ (Is d) = ⊥
Any ⊑ Any = Unit {0}

-- the least value that is at least both
abbrev pub join_of : IntValue → IntValue → IntValue
join_of Empty b = b
join_of (Is c) Empty = Is c
join_of (Is c) (Is d) = (if int_eq c d then Is c else Any)
join_of (Is c) Any = Any
join_of Any b = Any

-- ---- filters on ints (after SkipFlow)

-- what is left of any int where the comparison with a constant holds
abbrev pub any_refined : Cmp → ℤ → IntValue
any_refined Eq d = Is d
any_refined Ne d = Any
any_refined Lt d = Any
any_refined Ge d = Any
any_refined Gt d = Any
any_refined Le d = Any

-- What is left of a value where the comparison with another holds: nothing where one of the two is empty; a constant
-- where it compares so with the other constant; the other constant of any int that is equal to it; else all of it.
abbrev pub refined : Cmp → IntValue → IntValue → IntValue
refined cmp Empty b = Empty
refined cmp (Is c) Empty = Empty
refined cmp (Is c) (Is d) = (if compares cmp c d then Is c else Empty)
refined cmp (Is c) Any = Is c
refined cmp Any Empty = Empty
refined cmp Any (Is d) = any_refined cmp d
refined cmp Any Any = Any

-- what is left of a value that is none of the keys: nothing of a constant among them, else all of it
abbrev pub not_among : List ℤ → IntValue → IntValue
not_among keys Empty = Empty
not_among keys (Is c) = (if list_any (int_eq c) keys then Empty else Is c)
not_among keys Any = Any

-- the same on words
abbrev pub refined_word : Cmp → ℕ → ℕ → ℕ
refined_word cmp a b = word_of (refined cmp (int_value a) (int_value b))

abbrev pub not_among_word : List ℤ → ℕ → ℕ
not_among_word keys a = word_of (not_among keys (int_value a))
