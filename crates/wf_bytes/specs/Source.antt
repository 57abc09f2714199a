-- Where the bytes that are left stand in the file that they are of (this project's own).
use Rattle.std.specs.Prelude.{◌≡◌, ℕ, ◌+◌, ◌≤◌, List, length, take, drop, Option, Some, None}

-- the bytes are those of the file from a place on
pub record IsPartOf (file : List ℕ) (at : ℕ) (left : List ℕ) : Type 0 where
  pub same : left ≡ take (length left) (drop at file)
  pub fits : at + length left ≤ length file

-- the same where there is a file
abbrev pub AreOf : Option (List ℕ) → ℕ → List ℕ → Type 0
AreOf None at left = Unit {0}
AreOf (Some file) at left = IsPartOf file at left
