-- What was said by words is said again by the words that are printed of it.
use Rattle.std.proofs.Common.{◌≡◌, ℕ, suc, ◌+◌, true, List, [], ◌∷◌, ◌++◌, map, length, Option, Some, None, refl, sym, ap, subst, ◌∙◌, length-append, arith}
use Rattle.std.specs.List.{flat_map, AllByRecursion}
use Rattle.wf_lines.specs.Lines.{line, lines_of, words_of, joined, are_words, is_line, are_lines}
use Rattle.wf_inputs.specs.Saying.{Words}
use Rattle.wf_inputs.proofs.Spelled.{IsSpelled}

-- what the laws of words and lines say
pub record LineLaws : Type 0 where
  pub words : (first : List ℕ) (rest : Words) → are_words (first ∷ rest) ≡ true → words_of (joined (first ∷ rest)) ≡ first ∷ rest
  pub line_is : (words : Words) → are_words words ≡ true → is_line (joined words) ≡ true
  pub lines : (texts : List (List ℕ)) → are_lines texts ≡ true → lines_of (flat_map line texts) ≡ texts

-- x is said by the words that are printed of it, and these are printable
pub record IsAgain {X : Type 0} (words : X → Words) (said : Words → Option X) (x : X) : Type 0 where
  pub are : are_words (words x) ≡ true
  pub again : said (words x) ≡ Some x

pub from_spelled : {X : Type 0} (words : X → Words) (said : Words → Option X) (x : X) (ws : Words) → IsSpelled (words x) ws → said ws ≡ Some x → IsAgain words said x
from_spelled words said x ws spelled h = record { are = ap are_words spelled.same ∙ spelled.are; again = ap said spelled.same ∙ h }

-- the text of such words
pub text_again : {X : Type 0} (words : X → Words) (said : Words → Option X) (x : X) → LineLaws → said [] ≡ None → IsAgain words said x → said (words_of (joined (words x))) ≡ Some x
text_again {X} words said x laws empty a = go (words x) a.are a.again
  where
    go : (ws : Words) → are_words ws ≡ true → said ws ≡ Some x → said (words_of (joined ws)) ≡ Some x
    go [] are h = absurd cc
    go (w ∷ ws) are h = ap said (laws.words w ws are) ∙ h

-- the lines of such texts
texts_are : {X : Type 0} (words : X → Words) (said : Words → Option X) (xs : List X) → LineLaws → AllByRecursion (IsAgain words said) xs → are_lines (map (λ x. joined (words x)) xs) ≡ true
texts_are words said [] laws all = refl
texts_are words said (x ∷ xs) laws all = rw (laws.line_is (words x) all.0.are, texts_are words said xs laws all.1) refl

flat : {X : Type 0} (text : X → List ℕ) (xs : List X) → flat_map (λ x. line (text x)) xs ≡ flat_map line (map text xs)
flat text [] = refl
flat text (x ∷ xs) = ap (λ (rest : List ℕ). line (text x) ++ rest) (flat text xs)

pub texts_again : {X : Type 0} (words : X → Words) (said : Words → Option X) (xs : List X) → LineLaws → AllByRecursion (IsAgain words said) xs
    → lines_of (flat_map (λ x. line (joined (words x))) xs) ≡ map (λ x. joined (words x)) xs
texts_again {X} words said xs laws all =
    let text : X → List ℕ = λ x. joined (words x) in
    ap lines_of (flat text xs) ∙ laws.lines (map text xs) (texts_are words said xs laws all)

-- ---- lists of what was said

pub all_append : {X : Type 0} (P : X → Type 0) (xs ys : List X) → AllByRecursion P xs → AllByRecursion P ys → AllByRecursion P (xs ++ ys)
all_append P [] ys a b = b
all_append P (x ∷ xs) ys a b = (a.0, all_append P xs ys a.1 b)

pub all_front : {X : Type 0} (P : X → Type 0) (xs ys : List X) → AllByRecursion P (xs ++ ys) → AllByRecursion P xs
all_front P [] ys a = tt
all_front P (x ∷ xs) ys a = (a.0, all_front P xs ys a.1)

pub all_back : {X : Type 0} (P : X → Type 0) (xs ys : List X) → AllByRecursion P (xs ++ ys) → AllByRecursion P ys
all_back P [] ys a = a
all_back P (x ∷ xs) ys a = all_back P xs ys a.1

-- one more, somewhere among the others
pub record Inserts {X : Type 0} (x : X) (old new : List X) : Type 0 where
  pub front : List X
  pub back : List X
  pub was : old ≡ front ++ back
  pub is : new ≡ front ++ x ∷ back

pub all_inserted : {X : Type 0} (P : X → Type 0) (x : X) (old new : List X) → Inserts x old new → P x → AllByRecursion P old → AllByRecursion P new
all_inserted {X} P x old new i here all =
    let Q : List X → Type 0 = λ xs. AllByRecursion P xs in
    let parts : AllByRecursion P (i.front ++ i.back) = subst Q i.was all in
    subst Q (sym i.is) (all_append P i.front (x ∷ i.back) (all_front P i.front i.back parts) (here, all_back P i.front i.back parts))

pub length_inserted : {X : Type 0} (x : X) (old new : List X) → Inserts x old new → length new ≡ suc (length old)
length_inserted {X} x old new i =
    let a : length new ≡ length i.front + suc (length i.back) = ap length i.is ∙ length-append i.front (x ∷ i.back) in
    let b : length old ≡ length i.front + length i.back = ap length i.was ∙ length-append i.front i.back in
    omega arith
