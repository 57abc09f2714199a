-- Lists whose elements stand for the first places.
use Rattle.std.specs.Prelude.{ℕ, ◌+◌, List, [], ◌∷◌, ◌++◌}

-- so many elements, each of which is that of its place
pub data AreEach {A : Type 0} (Is : ℕ → A → Type 0) : ℕ → List A → Type 0 where
  none : AreEach Is 0 []
  next : (n : ℕ) (xs : List A) (x : A) → AreEach Is n xs → Is n x → AreEach Is (n + 1) (xs ++ x ∷ [])
