-- How what is read is tied to the bytes that it was read from (this project's own).
use Rattle.std.specs.Prelude.{◌≡◌, ℕ, ◌+◌, List, ◌++◌, length}
use Rattle.wf_bytes.specs.Place.{Place}

-- a value that was taken from the front: the bytes there that spell it, and the place behind them
pub record Took {X : Type 0} (G : List ℕ → X → Type 0) (p q : Place) (x : X) : Type 0 where
  pub text : List ℕ
  pub left : p.left ≡ text ++ q.left
  pub at : q.at ≡ p.at + length text
  pub spelled : G text x
