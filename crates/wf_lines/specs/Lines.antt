-- Lines and their words (this project's own).
use Rattle.std.specs.Prelude.{ℕ, Bool, true, ◌&&◌, List, [], ◌∷◌, ◌++◌, ◌==◌, nat_le}
use Rattle.std.specs.List.{flat_map, list_all, slice_split}
use Rattle.std.specs.Str.Lines.{lines}

-- Lines end with a line feed; a last line without one counts. A carriage return before the line feed is dropped.
abbrev pub lines_of : List ℕ → List (List ℕ)
lines_of text = lines text

-- Words are divided by one space.
abbrev pub words_of : List ℕ → List (List ℕ)
words_of line = slice_split (λ b. b == 32) line

-- Empty lines and lines that begin with `#` mean nothing.
abbrev pub is_nothing : List ℕ → Bool
is_nothing [] = true
is_nothing (b ∷ bytes) = b == 35

-- ---- printing

-- a line ends with a line feed
abbrev pub line : List ℕ → List ℕ
line text = text ++ 10 ∷ []

-- words, each behind a space
abbrev pub spaced : List (List ℕ) → List ℕ
spaced words = flat_map (λ word. 32 ∷ word) words

-- words with a space between them
abbrev pub joined : List (List ℕ) → List ℕ
joined [] = []
joined (word ∷ words) = word ++ spaced words

-- a word that is printed: printable bytes of ASCII other than the space
abbrev pub is_word : List ℕ → Bool
is_word word = list_all (λ b. nat_le 33 b && nat_le b 126) word

abbrev pub are_words : List (List ℕ) → Bool
are_words words = list_all is_word words

-- a line that is printed: such bytes and spaces
abbrev pub is_line : List ℕ → Bool
is_line text = list_all (λ b. nat_le 32 b && nat_le b 126) text

abbrev pub are_lines : List (List ℕ) → Bool
are_lines texts = list_all is_line texts
