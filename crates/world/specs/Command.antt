-- The words of the command line.
use Rattle.std.specs.Prelude.{◌≡◌, ℕ, List, [], ◌∷◌, Some, slice_get, codes, map}
use Rattle.std.specs.Str.{IsUtf8}
use Rattle.std.specs.Global.{Vec}

-- a word that is a path: it is UTF-8, and begins with `-` only if it is `-`
pub record IsPath (word : List ℕ) : Type 0 where
  pub utf8 : IsUtf8 word
  pub no_option : slice_get word 0 ≡ Some 45 → word ≡ 45 ∷ []

-- the words `--roots FILE DIR`
pub record IsCommand (words : List (List ℕ)) (roots dir : List ℕ) : Type 0 where
  pub words_are : words ≡ codes "--roots" ∷ roots ∷ dir ∷ []
  pub roots_path : IsPath roots
  pub dir_path : IsPath dir

-- the bytes of each word
abbrev pub words_of : List (Vec ℕ) → List (List ℕ)
words_of words = map (λ w. w.items) words
