-- What words answered, and results that lie between what an expression is in lower and in upper bounds of the answers
-- (this project's own). Words may rise between two answers, so no assignment needs to have all of them.
use Rattle.std.specs.Prelude.{◌≡◌, ℕ, ◌≤◌, Bool, true, List, [], ◌∷◌, ◌++◌, Option, Some, slice_get}
use Rattle.wf_lattice.specs.Words.{IsIn}

-- What a contract sees of words: how many there are, what no call changes, and the answers in their order, each with
-- its index.
pub record Seen : Type 0 where
  pub count : ℕ
  pub kept : List ℕ
  pub log : List (ℕ × ℕ)

-- each later answer has all bits of an earlier one of the same index
pub record Grows (log : List (ℕ × ℕ)) : Type 0 where
  pub each : (i j : ℕ) (a b : ℕ × ℕ) → i ≤ j → slice_get log i ≡ Some a → slice_get log j ≡ Some b → a.0 ≡ b.0 → IsIn a.1 b.1

-- each answer has at least the bits that the words x have at its index, or at most these
abbrev pub AreAtLeast : (ℕ → ℕ) → List (ℕ × ℕ) → Type 0
AreAtLeast x [] = Unit {0}
AreAtLeast x (a ∷ rest) = IsIn (x a.0) a.1 × AreAtLeast x rest

abbrev pub AreAtMost : (ℕ → ℕ) → List (ℕ × ℕ) → Type 0
AreAtMost x [] = Unit {0}
AreAtMost x (a ∷ rest) = IsIn a.1 (x a.0) × AreAtMost x rest

-- Some more answers were given, and nothing else changed. Low holds of all words that they are at least, and High of
-- all words that they are at most.
pub record Said (Low High : (ℕ → ℕ) → Type 0) (old new : Seen) : Type 0 where
  pub given : List (ℕ × ℕ)
  pub log : new.log ≡ old.log ++ given
  pub count : new.count ≡ old.count
  pub kept : new.kept ≡ old.kept
  pub grows : Grows old.log → Grows new.log
  pub low : (x : ℕ → ℕ) → AreAtLeast x given → Low x
  pub high : (x : ℕ → ℕ) → AreAtMost x given → High x

-- a word, a count and a test that lie between what f is in lower and in upper bounds
abbrev pub SaidWord : ((ℕ → ℕ) → ℕ) → Seen → Seen → ℕ → Type 0
SaidWord f old new result = Said (λ x. IsIn (f x) result) (λ x. IsIn result (f x)) old new

abbrev pub SaidCount : ((ℕ → ℕ) → ℕ) → Seen → Seen → ℕ → Type 0
SaidCount f old new result = Said (λ x. f x ≤ result) (λ x. result ≤ f x) old new

abbrev pub SaidBool : ((ℕ → ℕ) → Bool) → Seen → Seen → Bool → Type 0
SaidBool f old new result = Said (λ x. f x ≡ true → result ≡ true) (λ x. result ≡ true → f x ≡ true) old new
