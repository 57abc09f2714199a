-- The order of values, one for all kinds of nodes: the greater value is full, or has each bit of the smaller one.
use Rattle.std.specs.Prelude.{ℕ, Bool, false, not, ◌||◌, ◌⊎◌, IsTrue, nat_lt}
use Rattle.wf_lattice.specs.declared.kind.NodeKind.{NodeKind}
use Rattle.wf_lattice.specs.declared.kind.NodeKind.TheVariants.{Token, Int, Long, Refs, Inst, Links}
use Rattle.wf_lattice.specs.Words.{IsWithin, has_bit, is_empty, counted, types_of}
use Rattle.wf_lattice.specs.Ints.{is_any}

-- A value of references in n words is saturated where it says so, or has more than `most` types beside null.
abbrev pub is_saturated : ℕ → ℕ → (ℕ → ℕ) → Bool
is_saturated most n v = has_bit v 0 || nat_lt most (counted n (types_of v))

-- Nothing can be added: a token or a long that is set, an int that is any, references that are saturated. The types
-- that are made and the candidates of a call are plain sets, which never are full.
abbrev pub is_full : ℕ → ℕ → NodeKind → (ℕ → ℕ) → Bool
is_full most n Token v = not (is_empty n v)
is_full most n Int v = is_any (v 0)
is_full most n Long v = not (is_empty n v)
is_full most n Refs v = is_saturated most n v
is_full most n Inst v = false
is_full most n Links v = false

-- the second value is at least the first
abbrev pub Receives : ℕ → ℕ → NodeKind → (ℕ → ℕ) → (ℕ → ℕ) → Type 0
Receives most n kind f v = IsTrue (is_full most n kind v) ⊎ IsWithin f v
