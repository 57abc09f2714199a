-- Values of references as one speaks of them: saturated, or a set of types with null, which is type 0, or without.
-- Rows of words stand for them, and the order of rows is the order of what they stand for.
use Rattle.std.specs.Prelude.{◌≡◌, ℕ, suc, Bool, true, ◌⊎◌, IsTrue, if◌then◌else◌}
use Rattle.wf_lattice.specs.Words.{has_type}
use Rattle.wf_lattice.specs.Order.{is_saturated}

pub data RefValue : Type 0 where
  Saturated : RefValue
  SetOf : (ℕ → Bool) → RefValue

-- what a row stands for
abbrev pub ref_value : ℕ → ℕ → (ℕ → ℕ) → RefValue
ref_value most n v = (if is_saturated most n v then Saturated else SetOf (has_type v))

-- the order: saturated is greatest, and sets are ordered by inclusion
abbrev pub IsAtMost : RefValue → RefValue → Type 0
IsAtMost a Saturated = Unit {0}
IsAtMost Saturated (SetOf q) = ⊥
IsAtMost (SetOf p) (SetOf q) = (t : ℕ) → p t ≡ true → q t ≡ true

-- The row holds each type that P names, and null where it is asked for. Types other than null have numbers from 1.
pub record HoldsAll (P : ℕ → Bool) (null : Bool) (v : ℕ → ℕ) : Type 0 where
  pub each_type : (t : ℕ) → P (suc t) ≡ true → has_type v (suc t) ≡ true
  pub with_null : null ≡ true → has_type v 0 ≡ true

-- the row is saturated, or holds all that is named: what it takes to be at least a set
abbrev pub HoldsSet : ℕ → ℕ → (ℕ → Bool) → Bool → (ℕ → ℕ) → Type 0
HoldsSet most n P null v = IsTrue (is_saturated most n v) ⊎ HoldsAll P null v
