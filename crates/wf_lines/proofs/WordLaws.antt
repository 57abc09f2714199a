-- Words and lines that are printed are read as they were.
use Rattle.std.proofs.Common.{◌≡◌, ℕ, zero, suc, ◌-◌, Bool, true, false, ◌&&◌, cond, eqb, leb, List, [], ◌∷◌, ◌++◌, length, get_or, take, refl, ap, ◌∙◌, append_assoc, arith}
use Rattle.std.proofs.lemmas.Bool.{and_parts}
use Rattle.std.proofs.lemmas.Bool.Decides.{nat_tests}
use Rattle.std.proofs.lemmas.List.{append-nil}
use Rattle.std.proofs.lemmas.List.Splits.{join_with_byte-slice_split}
use Rattle.std.specs.List.{flat_map, list_all, slice_split, join_with_byte}
use Rattle.std.specs.Str.Lines.{lines_of_parts, strip_carriage_return}
use Rattle.wf_lines.specs.Lines.{line, lines_of, words_of, spaced, joined, is_word, are_words, is_line, are_lines}
use Rattle.wf_lines.proofs.Cutting.{piece_at, piece_alone, more_lines, some_piece}

-- ---- words

joined_is : (words : List (List ℕ)) → joined words ≡ join_with_byte 32 words
joined_is [] = refl
joined_is (w ∷ []) = append-nil w
joined_is (w ∷ v ∷ words) = ap (λ (rest : List ℕ). w ++ 32 ∷ rest) (joined_is (v ∷ words))

pub words_joined : (text : List ℕ) → joined (words_of text) ≡ text
words_joined text = joined_is (words_of text) ∙ join_with_byte-slice_split 32 text

no_space : (b : ℕ) → (leb 33 b && leb b 126) ≡ true → eqb b 32 ≡ false
no_space b h = grind (arith, nat_tests)

pub printed_words : (first : List ℕ) (rest : List (List ℕ)) → are_words (first ∷ rest) ≡ true → words_of (joined (first ∷ rest)) ≡ first ∷ rest
printed_words first [] h =
    let parts = and_parts (is_word first) true h in
    ap words_of (append-nil first) ∙ piece_alone 32 (λ b. leb 33 b && leb b 126) first no_space parts.0
printed_words first (v ∷ rest) h =
    let parts = and_parts (is_word first) (are_words (v ∷ rest)) h in
    piece_at 32 (λ b. leb 33 b && leb b 126) first (v ++ spaced rest) no_space refl parts.0 ∙ ap (λ (ws : List (List ℕ)). first ∷ ws) (printed_words v rest parts.1)

pub all_append : (q : ℕ → Bool) (xs ys : List ℕ) → list_all q xs ≡ true → list_all q ys ≡ true → list_all q (xs ++ ys) ≡ true
all_append q [] ys h k = k
all_append q (x ∷ xs) ys h k =
    let parts = and_parts (q x) (list_all q xs) h in
    let rest : list_all q (xs ++ ys) ≡ true = all_append q xs ys parts.1 k in
    rw (parts.0, rest) refl

printed_byte : (b : ℕ) → (leb 33 b && leb b 126) ≡ true → (leb 32 b && leb b 126) ≡ true
printed_byte b h = grind (arith, nat_tests)

word_line : (word : List ℕ) → is_word word ≡ true → is_line word ≡ true
word_line [] h = refl
word_line (b ∷ word) h =
    let parts = and_parts (leb 33 b && leb b 126) (is_word word) h in
    let one : (leb 32 b && leb b 126) ≡ true = printed_byte b parts.0 in
    rw (one, word_line word parts.1) refl

spaced_line : (words : List (List ℕ)) → are_words words ≡ true → is_line (spaced words) ≡ true
spaced_line [] h = refl
spaced_line (w ∷ words) h =
    let parts = and_parts (is_word w) (are_words words) h in
    all_append (λ b. leb 32 b && leb b 126) w (spaced words) (word_line w parts.0) (spaced_line words parts.1)

pub joined_line : (words : List (List ℕ)) → are_words words ≡ true → is_line (joined words) ≡ true
joined_line [] h = refl
joined_line (w ∷ words) h =
    let parts = and_parts (is_word w) (are_words words) h in
    all_append (λ b. leb 32 b && leb b 126) w (spaced words) (word_line w parts.0) (spaced_line words parts.1)

-- ---- lines

no_feed : (b : ℕ) → (leb 32 b && leb b 126) ≡ true → eqb b 10 ≡ false
no_feed b h = grind (arith, nat_tests)

no_return : (text : List ℕ) (i : ℕ) → is_line text ≡ true → eqb (get_or text i 0) 13 ≡ false
no_return [] i h = refl
no_return (b ∷ text) zero h = let parts = and_parts (leb 32 b && leb b 126) (is_line text) h in other b parts.0
  where
    other : (b : ℕ) → (leb 32 b && leb b 126) ≡ true → eqb b 13 ≡ false
    other b h = grind (arith, nat_tests)
no_return (b ∷ text) (suc i) h = let parts = and_parts (leb 32 b && leb b 126) (is_line text) h in no_return text i parts.1

stripped : (text : List ℕ) → is_line text ≡ true → strip_carriage_return text ≡ text
stripped text h = ap (λ (v : Bool). cond v (take (length text - 1) text) text) (no_return text (length text - 1) h)

pub printed_lines : (texts : List (List ℕ)) → are_lines texts ≡ true → lines_of (flat_map line texts) ≡ texts
printed_lines [] h = refl
printed_lines (t ∷ texts) h =
    let parts = and_parts (is_line t) (are_lines texts) h in
    let rest = flat_map line texts in
    ap lines_of (append_assoc t (10 ∷ []) rest) ∙ ap lines_of_parts (piece_at 10 (λ b. leb 32 b && leb b 126) t rest no_feed refl parts.0)
    ∙ more_lines t (slice_split (λ b. eqb b 10) rest) (some_piece (λ b. eqb b 10) rest) ∙ ap (λ (x : List ℕ). x ∷ lines_of rest) (stripped t parts.0) ∙ ap (λ (ls : List (List ℕ)). t ∷ ls) (printed_lines texts parts.1)
