-- What each element of a list gives, by its place, one behind the other.
use Rattle.std.specs.Prelude.{ℕ, ◌+◌, List, [], ◌∷◌, ◌++◌}

abbrev pub each_from : {A B : Type 0} → (ℕ → A → List B) → ℕ → List A → List B
each_from f i [] = []
each_from f i (x ∷ xs) = f i x ++ each_from f (i + 1) xs
