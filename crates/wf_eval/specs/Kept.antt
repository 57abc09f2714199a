-- Words that nothing changes: each answer is the word of the slice.
use Rattle.std.specs.Prelude.{◌≡◌, ℕ, List, Some, slice_get, slice_index}

pub record Tells (words : List ℕ) (log : List (ℕ × ℕ)) : Type 0 where
  pub each : (i : ℕ) (a : ℕ × ℕ) → slice_get log i ≡ Some a → a.1 ≡ slice_index words a.0
