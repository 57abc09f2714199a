-- The names of generated classes are names that a pool has room for.
use Rattle.std.proofs.Common.{◌≡◌, ℕ, ◌+◌, ◌%◌, ◌<◌, ◌≤◌, ◌^◌, ◌==◌, Bool, true, false, not, ◌&&◌, nat_lt, List, [], ◌∷◌, ◌++◌, length, decimal, refl, ◌∙◌, arith}
use Rattle.std.specs.List.{list_all}
use Rattle.std.specs.Prelude.{nat_le}
use Rattle.std.proofs.lemmas.Bool.{and_from, and_parts, ltb-true}
use Rattle.std.proofs.lemmas.Bool.Decides.{nat_tests}
use Rattle.std.proofs.lemmas.Fmt.{decimal_by_steps, length-decimal-le}
use Rattle.std.proofs.lemmas.List.Folds.{list_all-append}
use Rattle.wf_grammar.specs.ClassFile.{is_text_byte}
use Rattle.wf_names.specs.Names.{is_class_name, is_forbidden, are_parts}
use Rattle.wf_asm.specs.Generating.{class_name}
use Rattle.wf_asm.proofs.SpelledPool.{IsPoolText}

-- a decimal digit
abbrev is_digit : ℕ → Bool
is_digit b = nat_le 48 b && nat_le b 57

digit : (n : ℕ) → n < 10 → is_digit (48 + n) ≡ true
digit n lt = grind (arith, nat_tests)

pub are_digits : (n : ℕ) → n < 2 ^ 64 → list_all is_digit (decimal n) ≡ true
are_digits n fits = decimal_by_steps (λ (m : ℕ) (ds : List ℕ). list_all is_digit ds ≡ true) one more n fits
  where
    one : (m : ℕ) → m < 10 → list_all is_digit ((48 + m) ∷ []) ≡ true
    one m lt = and_from _ _ (digit m lt) refl

    more : (m : ℕ) (ds : List ℕ) → 10 ≤ m → list_all is_digit ds ≡ true → list_all is_digit (ds ++ ((48 + m % 10) ∷ [])) ≡ true
    more m ds le h = list_all-append is_digit ds ((48 + m % 10) ∷ []) ∙ and_from _ _ h (and_from _ _ (digit (m % 10) (omega arith)) refl)

digit_is_text : (b : ℕ) → is_digit b ≡ true → is_text_byte b ≡ true
digit_is_text b h = grind (arith, nat_tests)

-- a digit is neither `/` nor a byte that no name has
digit_is_no_slash : (b : ℕ) → is_digit b ≡ true → (b == 47) ≡ false
digit_is_no_slash b h = grind (arith, nat_tests)

digit_is_allowed : (b : ℕ) → is_digit b ≡ true → not (is_forbidden b) ≡ true
digit_is_allowed b h = grind (arith, nat_tests)

digits_are_text : (ds : List ℕ) → list_all is_digit ds ≡ true → list_all is_text_byte ds ≡ true
digits_are_text [] h = refl
digits_are_text (d ∷ ds) h =
    let both = and_parts (is_digit d) (list_all is_digit ds) h in
    and_from _ _ (digit_is_text d both.0) (digits_are_text ds both.1)

digits_are_part : (ds : List ℕ) → list_all is_digit ds ≡ true → are_parts true ds ≡ true
digits_are_part [] h = refl
digits_are_part (d ∷ ds) h =
    let both = and_parts (is_digit d) (list_all is_digit ds) h in
    rw (digit_is_no_slash d both.0) (and_from _ _ (digit_is_allowed d both.0) (digits_are_part ds both.1))

pub name_has_room : (i : ℕ) → i < 2 ^ 32 → IsPoolText (class_name i)
name_has_room i fits = record {
  bytes = digits_are_text (decimal i) (are_digits i (omega arith));
  short = omega (arith, length-decimal-le 10 i (omega arith) (omega arith) (omega arith));
}

pub is_name : (i : ℕ) → i < 2 ^ 32 → is_class_name (class_name i) ≡ true
is_name i fits = digits_are_part (decimal i) (are_digits i (omega arith))

-- a text that is known, by a test that computes
pub has_room : (text : List ℕ) → (list_all is_text_byte text && nat_lt (length text) 65536) ≡ true → IsPoolText text
has_room text is =
    let both = and_parts (list_all is_text_byte text) (nat_lt (length text) 65536) is in
    record { bytes = both.0; short = ltb-true _ _ both.1 }
