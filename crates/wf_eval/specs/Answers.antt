-- The word that an inequality joins, and what lies between the first and the last answers.
use Rattle.std.specs.Prelude.{◌≡◌, ℕ, Bool, ◌==◌, if◌then◌else◌, List, [], ◌∷◌, ◌++◌}
use Rattle.wf_lattice.specs.Words.{IsIn}
use Rattle.wf_system.specs.declared.inequality.Inequality.{Inequality}
use Rattle.wf_system.specs.System.{Tables, guard_holds, given}
use Rattle.wf_eval.specs.Said.{Seen, Grows}

-- the word at place k that an inequality joins into its target: none where its guard doesn't hold
abbrev pub word_of : {N : Type 0} → Tables N → Inequality N → (N → ℕ → ℕ) → ℕ → ℕ
word_of t q x k = (if guard_holds t q.guard x then given t q.value x q.target k else 0)

-- the words as each index was answered first, or last, and any words at the others
abbrev pub first_of : List (ℕ × ℕ) → (ℕ → ℕ) → ℕ → ℕ
first_of [] other i = other i
first_of (a ∷ rest) other i = (if i == a.0 then a.1 else first_of rest other i)

abbrev pub last_of : List (ℕ × ℕ) → (ℕ → ℕ) → ℕ → ℕ
last_of [] other i = other i
last_of (a ∷ rest) other i = last_of rest (λ j. if j == a.0 then a.1 else other j) i

-- Where the answers before the call grew, the result lies between what f is in the first answers of the call and what it
-- is in the last ones, whatever the words are that the call didn't ask for.
pub record LiesBetween (f : (ℕ → ℕ) → ℕ) (old new : Seen) (result : ℕ) : Type 0 where
  pub given : List (ℕ × ℕ)
  pub log : new.log ≡ old.log ++ given
  pub first : Grows old.log → (other : ℕ → ℕ) → IsIn (f (first_of given other)) result
  pub last : Grows old.log → (other : ℕ → ℕ) → IsIn result (f (last_of given other))
