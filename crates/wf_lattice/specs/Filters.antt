-- What a filter leaves of values of references, a line for each (after SkipFlow). Each is a set: a row of types, and
-- null or not. `mask` is the row of the types under a class; its bits 0 and 1 are not looked at, nor those of `inst`.
use Rattle.std.specs.Prelude.{ℕ, Bool, true, false, not, ◌&&◌, if◌then◌else◌, pos, nat_lt, bit_or}
use Rattle.wf_lattice.specs.declared.view.Nulls.{Nulls}
use Rattle.wf_lattice.specs.declared.view.Nulls.TheVariants.{Keep, Drop, Only}
use Rattle.wf_lattice.specs.Words.{is_empty, counted, types_of, flags_of, both, either, without, nothing}
use Rattle.wf_lattice.specs.Ints.{constant_word}
use Rattle.wf_lattice.specs.Meaning.{means_null, meant_types}

-- the value of a set of types, with null or without: it is saturated where it has more than `most` types
abbrev pub set_words : ℕ → ℕ → (ℕ → ℕ) → Bool → ℕ → ℕ
set_words most n types null = either types (flags_of (nat_lt most (counted n types)) null)

-- the types of the meaning that are in the mask
abbrev pub masked_types : ℕ → ℕ → (ℕ → ℕ) → (ℕ → ℕ) → (ℕ → ℕ) → ℕ → ℕ
masked_types most n v inst mask = both (meant_types most n v inst) mask

-- the types of the meaning in the mask, and null of the meaning: kept, dropped, or alone
abbrev pub filtered : ℕ → ℕ → (ℕ → ℕ) → (ℕ → ℕ) → (ℕ → ℕ) → Nulls → ℕ → ℕ
filtered most n v inst mask Keep = set_words most n (masked_types most n v inst mask) (means_null most n v)
filtered most n v inst mask Drop = set_words most n (masked_types most n v inst mask) false
filtered most n v inst mask Only = set_words most n nothing (means_null most n v)

-- the meaning without null
abbrev pub no_null : ℕ → ℕ → (ℕ → ℕ) → (ℕ → ℕ) → ℕ → ℕ
no_null most n v inst = set_words most n (meant_types most n v inst) false

-- null, where the meaning has it
abbrev pub only_null : ℕ → ℕ → (ℕ → ℕ) → ℕ → ℕ
only_null most n v = set_words most n nothing (means_null most n v)

-- what is in both meanings: the references that are equal
abbrev pub equal_refs : ℕ → ℕ → (ℕ → ℕ) → (ℕ → ℕ) → (ℕ → ℕ) → ℕ → ℕ
equal_refs most n a b inst = set_words most n (both (meant_types most n a inst) (meant_types most n b inst)) (means_null most n a && means_null most n b)

-- What is left of `a` where it isn't the reference `b`: nothing where the meaning of `b` is empty, the meaning of `a`
-- without null where that of `b` is null alone, else the meaning of `a`.
abbrev pub unequal_types : ℕ → ℕ → (ℕ → ℕ) → (ℕ → ℕ) → (ℕ → ℕ) → ℕ → ℕ
unequal_types most n a b inst k = (if is_empty n (meant_types most n b inst) && not (means_null most n b) then 0 else meant_types most n a inst k)

abbrev pub unequal_refs : ℕ → ℕ → (ℕ → ℕ) → (ℕ → ℕ) → (ℕ → ℕ) → ℕ → ℕ
unequal_refs most n a b inst = set_words most n (unequal_types most n a b inst) (means_null most n a && not (is_empty n (meant_types most n b inst)))

-- the types that are made and in the mask, and these with null
abbrev pub all_under : ℕ → ℕ → (ℕ → ℕ) → (ℕ → ℕ) → ℕ → ℕ
all_under most n inst mask = set_words most n (both (types_of inst) mask) false

abbrev pub some_under : ℕ → ℕ → (ℕ → ℕ) → (ℕ → ℕ) → ℕ → ℕ
some_under most n inst mask = set_words most n (both (types_of inst) mask) true

-- the int of a test of the meaning against the mask: 1 where some type is in it, 0 where some type isn't or where
-- null is held, and their join where both are so
abbrev pub tested_word : ℕ → ℕ → (ℕ → ℕ) → (ℕ → ℕ) → (ℕ → ℕ) → ℕ
tested_word most n v inst mask = bit_or
    (if is_empty n (masked_types most n v inst mask) then 0 else constant_word (pos 1))
    (if is_empty n (without (meant_types most n v inst) mask) && not (means_null most n v) then 0 else constant_word (pos 0))

-- the int 0 where the meaning has null
abbrev pub null_word : ℕ → ℕ → (ℕ → ℕ) → ℕ
null_word most n v = (if means_null most n v then constant_word (pos 0) else 0)
