-- What follows a beginning of a text.
use Rattle.std.specs.Prelude.{ℕ, List, [], ◌∷◌, Option, Some, None, ◌==◌, if◌then◌else◌}

-- what follows a beginning of a text, where the text has it
abbrev pub strip : List ℕ → List ℕ → Option (List ℕ)
strip [] text = Some text
strip (b ∷ front) [] = None
strip (b ∷ front) (c ∷ text) = if c == b then strip front text else None
