-- The first bad line, as it is looked for (this project's own).
use Rattle.std.specs.Prelude.{◌≡◌, ℕ, ◌<◌, Option, Some, None, option_map, nat_lt, if◌then◌else◌}
use Rattle.wf_names.specs.declared.input.InputWhy.{InputWhy}
use Rattle.wf_binding.specs.Validity.{IsFirstBad, HasNoBad}
use Rattle.wf_binding.specs.declared.first.BadLine.{BadLine}

-- what is wrong, at its line
abbrev pub at_line : ℕ → Option InputWhy → Option BadLine
at_line line word = option_map (λ w. record { line = line; why = w }) word

-- the one that stands first
abbrev pub earlier_of : Option BadLine → Option BadLine → Option BadLine
earlier_of None b = b
earlier_of (Some x) None = Some x
earlier_of (Some x) (Some y) = if nat_lt y.line x.line then Some y else Some x

-- the first bad line, or none where no line is bad
abbrev pub IsFirst : (ℕ → InputWhy → Type 0) → Option BadLine → Type 0
IsFirst Bad None = HasNoBad Bad
IsFirst Bad (Some x) = IsFirstBad Bad x.line x.why

-- one of the first n is bad
pub record Upto (Bad : ℕ → ℕ → InputWhy → Type 0) (n line : ℕ) (w : InputWhy) : Type 0 where
  pub place : ℕ
  pub below : place < n
  pub bad : Bad place line w

-- what is wrong with one thing
abbrev pub IsWord : (InputWhy → Type 0) → Option InputWhy → Type 0
IsWord Bad None = (w : InputWhy) → Bad w → ⊥
IsWord Bad (Some w) = Bad w
