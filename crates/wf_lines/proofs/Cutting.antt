-- Cutting a text into lines, and a line into words.
use Rattle.std.proofs.Common.{◌≡◌, ℕ, suc, ◌+◌, ◌-◌, ◌<◌, ◌≤◌, Bool, true, false, not, cond, eqb, ltb, List, [], ◌∷◌, ◌++◌, length, take, drop, Some, None, refl, sym, ap, ◌∙◌, append_assoc, arith}
use Rattle.std.proofs.lemmas.Bool.{ltb-true, ltb-false, and_parts}
use Rattle.std.proofs.lemmas.List.{take_rest}
use Rattle.std.proofs.lemmas.List.Splits.{slice_split_first, length-slice_split}
use Rattle.std.proofs.lemmas.Option.{cond_some}
use Rattle.std.proofs.Math.Dec.{eqb-suc-zero}
use Rattle.std.specs.List.{list_all, slice_split, onto_first, position, position_or_len}
use Rattle.std.specs.Str.Lines.{lines_of_parts, strip_carriage_return}
use Rattle.wf_lines.specs.Lines.{lines_of, words_of}

-- ---- the first piece

found : (p : ℕ → Bool) (xs : List ℕ) (i : ℕ) → position p xs ≡ Some i → (position_or_len p xs < length xs) × (position_or_len p xs ≡ i)
found p xs i h =
    let parts = cond_some (ltb (position_or_len p xs) (length xs)) (position_or_len p xs) i h in
    (ltb-true (position_or_len p xs) (length xs) parts.0, parts.1)

not_found : (p : ℕ → Bool) (xs : List ℕ) → position p xs ≡ None → length xs ≤ position_or_len p xs
not_found p xs h = go (ltb (position_or_len p xs) (length xs)) refl h
  where
    go : (v : Bool) → ltb (position_or_len p xs) (length xs) ≡ v → cond v (Some (position_or_len p xs)) None ≡ None → length xs ≤ position_or_len p xs
    go true e k = absurd cc
    go false e k = ltb-false (position_or_len p xs) (length xs) e

pub first_piece : (sep : ℕ) (xs : List ℕ) (i : ℕ) → position (λ b. eqb b sep) xs ≡ Some i
    → slice_split (λ b. eqb b sep) xs ≡ take i xs ∷ slice_split (λ b. eqb b sep) (drop (i + 1) xs)
first_piece sep xs i h =
    let f = found (λ b. eqb b sep) xs i h in
    slice_split_first (λ b. eqb b sep) xs 0 f.0 ∙ ap (λ (n : ℕ). take n xs ∷ slice_split (λ b. eqb b sep) (drop (n + 1) xs)) f.1

all_of_it : (p : ℕ → Bool) (xs : List ℕ) → length xs ≤ position_or_len p xs → slice_split p xs ≡ xs ∷ []
all_of_it p [] le = refl
all_of_it p (x ∷ xs) le =
    elim (p x) as (λ v. suc (length xs) ≤ cond (not v) (1 + position_or_len p xs) 0 → cond v ([] ∷ slice_split p xs) (onto_first x (slice_split p xs)) ≡ (x ∷ xs) ∷ []) [
      | true ↦ λ h. absurd (omega arith)
      | false ↦ λ h. ap (λ (ps : List (List ℕ)). onto_first x ps) (all_of_it p xs (omega arith))
    ] le

pub one_piece : (sep : ℕ) (xs : List ℕ) → position (λ b. eqb b sep) xs ≡ None → slice_split (λ b. eqb b sep) xs ≡ xs ∷ []
one_piece sep xs h = all_of_it (λ b. eqb b sep) xs (not_found (λ b. eqb b sep) xs h)

-- a piece of bytes other than the separator, in front of one
pub piece_at : (sep : ℕ) (q : ℕ → Bool) (front rest : List ℕ) → ((b : ℕ) → q b ≡ true → eqb b sep ≡ false) → eqb sep sep ≡ true → list_all q front ≡ true
    → slice_split (λ b. eqb b sep) (front ++ sep ∷ rest) ≡ front ∷ slice_split (λ b. eqb b sep) rest
piece_at sep q [] rest apart same all = rw same refl
piece_at sep q (b ∷ front) rest apart same all =
    let parts = and_parts (q b) (list_all q front) all in
    let no : eqb b sep ≡ false = apart b parts.0 in
    rw (no, piece_at sep q front rest apart same parts.1) refl

pub piece_alone : (sep : ℕ) (q : ℕ → Bool) (front : List ℕ) → ((b : ℕ) → q b ≡ true → eqb b sep ≡ false) → list_all q front ≡ true
    → slice_split (λ b. eqb b sep) front ≡ front ∷ []
piece_alone sep q [] apart all = refl
piece_alone sep q (b ∷ front) apart all =
    let parts = and_parts (q b) (list_all q front) all in
    let no : eqb b sep ≡ false = apart b parts.0 in
    rw (no, piece_alone sep q front apart parts.1) refl

-- ---- lines

pub some_piece : (p : ℕ → Bool) (xs : List ℕ) → 0 < length (slice_split p xs)
some_piece p xs = omega (arith, length-slice_split p xs)

pub more_lines : (x : List ℕ) (parts : List (List ℕ)) → 0 < length parts → lines_of_parts (x ∷ parts) ≡ strip_carriage_return x ∷ lines_of_parts parts
more_lines x [] lt = absurd (omega arith)
more_lines x (y ∷ parts) lt = refl

pub first_line : (text : List ℕ) (i : ℕ) → position (λ b. eqb b 10) text ≡ Some i
    → lines_of text ≡ strip_carriage_return (take i text) ∷ lines_of (take (length text - (i + 1)) (drop (i + 1) text))
first_line text i h =
    ap lines_of_parts (first_piece 10 text i h) ∙ more_lines (take i text) (slice_split (λ b. eqb b 10) (drop (i + 1) text)) (some_piece (λ b. eqb b 10) (drop (i + 1) text))
    ∙ ap (λ (rest : List ℕ). strip_carriage_return (take i text) ∷ lines_of rest) (sym (take_rest text (i + 1)))

last_part : (text : List ℕ) → 0 < length text → lines_of_parts (text ∷ []) ≡ text ∷ []
last_part [] lt = absurd (omega arith)
last_part (b ∷ text) lt = rw (eqb-suc-zero (length text)) refl

pub last_line : (text : List ℕ) → position (λ b. eqb b 10) text ≡ None → 0 < length text → lines_of text ≡ text ∷ []
last_line text h lt = ap lines_of_parts (one_piece 10 text h) ∙ last_part text lt

pub no_line : (text : List ℕ) → length text ≡ 0 → lines_of text ≡ []
no_line [] e = refl
no_line (b ∷ text) e = absurd (omega arith)

-- counting them
pub one_more : (text first behind : List ℕ) (count total : ℕ) → lines_of text ≡ first ∷ lines_of behind → count + length (lines_of text) ≡ total → count + 1 + length (lines_of behind) ≡ total
one_more text first behind count total cut so_far = let e : length (lines_of text) ≡ suc (length (lines_of behind)) = ap length cut in omega arith

pub no_more : (text : List ℕ) (count total : ℕ) → lines_of text ≡ [] → count + length (lines_of text) ≡ total → count ≡ total
no_more text count total none so_far = let e : length (lines_of text) ≡ 0 = ap length none in omega arith

-- ---- words

pub word_ends : (words : List (List ℕ)) (rest : List ℕ) (i : ℕ) (total : List (List ℕ)) → position (λ b. eqb b 32) rest ≡ Some i
    → words ++ words_of rest ≡ total → (words ++ take i rest ∷ []) ++ words_of (take (length rest - (i + 1)) (drop (i + 1) rest)) ≡ total
word_ends words rest i total h so_far =
    let one : words_of rest ≡ take i rest ∷ words_of (take (length rest - (i + 1)) (drop (i + 1) rest)) =
    first_piece 32 rest i h ∙ ap (λ (more : List ℕ). take i rest ∷ words_of more) (sym (take_rest rest (i + 1))) in
    simp append_assoc (ap (λ (ws : List (List ℕ)). words ++ ws) (sym one) ∙ so_far)

pub last_word : (words : List (List ℕ)) (rest : List ℕ) (total : List (List ℕ)) → position (λ b. eqb b 32) rest ≡ None → words ++ words_of rest ≡ total → words ++ rest ∷ [] ≡ total
last_word words rest total h so_far = ap (λ (ws : List (List ℕ)). words ++ ws) (sym (one_piece 32 rest h)) ∙ so_far
