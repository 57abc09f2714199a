-- The numbers of texts of a pool: a text's number is a place at which it stands, so no other text has it.
use Rattle.std.specs.Prelude.{◌≡◌, ℕ, ◌⊎◌, List, [], Option, Some, unwrap_or}
use Rattle.std.specs.Cmp.Lexicographic.{slice_cmp}
use Rattle.std.specs.Ordering.{nat_cmp}
use Rattle.std.specs.BTreeMap.{is_at}
use Rattle.std.specs.Map.{lookup}
use Rattle.wf_data.specs.declared.class_info.PoolEntry.{PoolEntry}
use Rattle.wf_data.specs.Pool.{text_at}

-- a pool, and the numbers that texts have so far
pub record Numbered : Type 0 where
  pub pool : List PoolEntry
  pub numbers : List (List ℕ × ℕ)

abbrev pub number_in : List (List ℕ × ℕ) → List ℕ → Option ℕ
number_in numbers text = lookup (is_at (slice_cmp nat_cmp text)) numbers

-- the text at a place
abbrev pub text_there : List PoolEntry → ℕ → List ℕ
text_there pool place = unwrap_or (text_at pool place) []

-- each text keeps its number
pub record Grows (old new : List (List ℕ × ℕ)) : Type 0 where
  pub kept : (text : List ℕ) (n : ℕ) → number_in old text ≡ Some n → number_in new text ≡ Some n

-- the same, and only a text that stands at a place may have a number more, which is that place
pub record Adds (old new : List (List ℕ × ℕ)) (added : List ℕ) (place : ℕ) : Type 0 where
  pub kept : (text : List ℕ) (n : ℕ) → number_in old text ≡ Some n → number_in new text ≡ Some n
  pub only : (text : List ℕ) (n : ℕ) → number_in new text ≡ Some n → (number_in old text ≡ Some n) ⊎ ((text ≡ added) × (n ≡ place))

pub record Stand (pool : List PoolEntry) (numbers : List (List ℕ × ℕ)) : Type 0 where
  pub stands : (text : List ℕ) (n : ℕ) → number_in numbers text ≡ Some n → text_at pool n ≡ Some text
