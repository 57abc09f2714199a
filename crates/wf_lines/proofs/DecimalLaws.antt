-- A word is a decimal exactly where it is what is printed of that number.
use Rattle.std.proofs.Common.{◌≡◌, ℕ, zero, suc, ◌+◌, ◌-◌, ◌*◌, ◌/◌, ◌%◌, ◌^◌, ◌<◌, ◌≤◌, Bool, true, false, cond, eqb, leb, List, [], ◌∷◌, ◌++◌, get_or, Option, Some, None, refl, sym, ap, ◌∙◌, append_assoc, arith, ℤ, pos, negsuc, ◌-ℤ◌, ◌≤ℤ◌}
use Rattle.std.proofs.lemmas.Bool.{le-leb}
use Rattle.std.proofs.lemmas.Bool.Decides.{nat_tests}
use Rattle.std.proofs.lemmas.Fmt.{decimal_digit, decimal_step, decimal_by_steps, first_decimal}
use Rattle.std.proofs.lemmas.Int.{ints}
use Rattle.std.proofs.lemmas.List.{append-nil}
use Rattle.std.proofs.Math.Dec.{eqb-suc-zero}
use Rattle.std.specs.Fmt.{decimal, signed_decimal}
use Rattle.std.specs.Prelude.{option_map}
use Rattle.wf_lines.specs.Decimals.{is_digit, value_from, natural_of, negative_of, integer_of}
use Rattle.wf_lines.specs.Lines.{is_word}

-- the digit that a byte is
record Digit (n b : ℕ) (bytes : List ℕ) (m : ℕ) : Type 0 where
  low : 48 ≤ b
  high : b ≤ 57
  rest : value_from (n * 10 + (b - 48)) bytes ≡ Some m

digit : (n b : ℕ) (bytes : List ℕ) (m : ℕ) → value_from n (b ∷ bytes) ≡ Some m → Digit n b bytes m
digit n b bytes m h = go (is_digit b) refl h
  where
    go : (v : Bool) → is_digit b ≡ v → cond v (value_from (n * 10 + (b - 48)) bytes) None ≡ Some m → Digit n b bytes m
    go true e k = record { low = grind (arith, nat_tests); high = grind (arith, nat_tests); rest = k }
    go false e k = absurd cc

grows : (n : ℕ) (bytes : List ℕ) (m : ℕ) → value_from n bytes ≡ Some m → n ≤ m
grows n [] m h = let same : n ≡ m = cc in omega arith
grows n (b ∷ bytes) m h = let d = digit n b bytes m h in omega (arith, grows (n * 10 + (b - 48)) bytes m d.rest)

more_digits : (n : ℕ) (bytes : List ℕ) (m : ℕ) → 0 < n → m < 2 ^ 64 → value_from n bytes ≡ Some m → decimal m ≡ decimal n ++ bytes
more_digits n [] m lt fits h = let same : m ≡ n = cc in ap decimal same ∙ sym (append-nil (decimal n))
more_digits n (b ∷ bytes) m lt fits h =
    let d = digit n b bytes m h in
    let k = n * 10 + (b - 48) in
    let below : k ≤ m = grows k bytes m d.rest in
    let front : k / 10 ≡ n = omega (arith, d.low, d.high) in
    let last : 48 + k % 10 ≡ b = omega (arith, d.low, d.high) in
    let one : decimal k ≡ decimal n ++ b ∷ [] = decimal_step k (omega arith) (omega arith) ∙ ap (λ (x : ℕ). decimal x ++ (48 + k % 10) ∷ []) front ∙ ap (λ (x : ℕ). decimal n ++ x ∷ []) last in
    more_digits k bytes m (omega arith) fits d.rest ∙ ap (λ (ds : List ℕ). ds ++ bytes) one ∙ append_assoc (decimal n) (b ∷ []) bytes

one_digit : (b n : ℕ) → value_from 0 (b ∷ []) ≡ Some n → decimal n ≡ b ∷ []
one_digit b n h =
    let d = digit 0 b [] n h in
    let is : 0 * 10 + (b - 48) ≡ n = cc in
    let again : 48 + n ≡ b = omega (arith, d.low, is) in
    decimal_digit n (omega (arith, d.high, is)) ∙ ap (λ (x : ℕ). x ∷ []) again

many_digits : (b c : ℕ) (bytes : List ℕ) (n : ℕ) → n < 2 ^ 64 → eqb b 48 ≡ false → value_from 0 (b ∷ c ∷ bytes) ≡ Some n → decimal n ≡ b ∷ c ∷ bytes
many_digits b c bytes n fits other h =
    let d = digit 0 b (c ∷ bytes) n h in
    let first = 0 * 10 + (b - 48) in
    let low : 48 < b = grind (arith, nat_tests, d.low) in
    let again : 48 + first ≡ b = omega arith in
    more_digits first (c ∷ bytes) n (omega arith) fits d.rest ∙ ap (λ (ds : List ℕ). ds ++ c ∷ bytes) (decimal_digit first (omega (arith, d.high)) ∙ ap (λ (x : ℕ). x ∷ []) again)

pub read_decimal : (word : List ℕ) (n : ℕ) → natural_of word ≡ Some n → n < 2 ^ 64 → decimal n ≡ word
read_decimal [] n h fits = absurd cc
read_decimal (b ∷ []) n h fits = one_digit b n h
read_decimal (b ∷ c ∷ bytes) n h fits = go (eqb b 48) refl h
  where
    go : (v : Bool) → eqb b 48 ≡ v → cond v None (value_from 0 (b ∷ c ∷ bytes)) ≡ Some n → decimal n ≡ b ∷ c ∷ bytes
    go true e k = absurd cc
    go false e k = many_digits b c bytes n fits e k

-- ---- printing

value_append : (n : ℕ) (bytes : List ℕ) (m d : ℕ) → value_from n bytes ≡ Some m → 48 ≤ d → d ≤ 57 → value_from n (bytes ++ d ∷ []) ≡ Some (m * 10 + (d - 48))
value_append n [] m d h low high = let same : n ≡ m = cc in rw (le-leb 48 d low, le-leb d 57 high, same) refl
value_append n (b ∷ bytes) m d h low high =
    let g = digit n b bytes m h in
    rw (le-leb 48 b g.low, le-leb b 57 g.high) (value_append (n * 10 + (b - 48)) bytes m d g.rest low high)

digit_value : (n : ℕ) → n < 10 → value_from 0 ((48 + n) ∷ []) ≡ Some n
digit_value n lt =
    let low : leb 48 (48 + n) ≡ true = le-leb 48 (48 + n) (omega arith) in
    let high : leb (48 + n) 57 ≡ true = le-leb (48 + n) 57 (omega arith) in
    let is : 0 * 10 + (48 + n - 48) ≡ n = omega arith in
    rw (low, high, is) refl

step_value : (n : ℕ) (ds : List ℕ) → 10 ≤ n → value_from 0 ds ≡ Some (n / 10) → value_from 0 (ds ++ (48 + n % 10) ∷ []) ≡ Some n
step_value n ds le h =
    let is : n / 10 * 10 + (48 + n % 10 - 48) ≡ n = omega arith in
    value_append 0 ds (n / 10) (48 + n % 10) h (omega arith) (omega arith) ∙ ap (λ (x : ℕ). Some x) is

value_decimal : (n : ℕ) → n < 2 ^ 64 → value_from 0 (decimal n) ≡ Some n
value_decimal n fits = decimal_by_steps (λ m ds. value_from 0 ds ≡ Some m) digit_value step_value n fits

no_leading_zero : (word : List ℕ) (n : ℕ) → value_from 0 word ≡ Some n → 48 < get_or word 0 0 → natural_of word ≡ Some n
no_leading_zero [] n h lt = absurd (omega arith)
no_leading_zero (b ∷ []) n h lt = h
no_leading_zero (b ∷ c ∷ bytes) n h lt = let no : eqb b 48 ≡ false = grind (arith, nat_tests) in rw no h

pub printed_decimal : (n : ℕ) → n < 2 ^ 64 → natural_of (decimal n) ≡ Some n
printed_decimal zero fits = ap natural_of (decimal_digit 0 (omega arith))
printed_decimal (suc n) fits = no_leading_zero (decimal (suc n)) (suc n) (value_decimal (suc n) fits) (first_decimal (suc n) (omega arith) fits)

-- ---- words

digits_word : (n : ℕ) (bytes : List ℕ) (m : ℕ) → value_from n bytes ≡ Some m → is_word bytes ≡ true
digits_word n [] m h = refl
digits_word n (b ∷ bytes) m h =
    let d = digit n b bytes m h in
    rw (le-leb 33 b (omega (arith, d.low)), le-leb b 126 (omega (arith, d.high)), digits_word (n * 10 + (b - 48)) bytes m d.rest) refl

pub decimal_word : (word : List ℕ) (n : ℕ) → natural_of word ≡ Some n → is_word word ≡ true
decimal_word [] n h = refl
decimal_word (b ∷ []) n h = digits_word 0 (b ∷ []) n h
decimal_word (b ∷ c ∷ bytes) n h = go (eqb b 48) h
  where
    go : (v : Bool) → cond v None (value_from 0 (b ∷ c ∷ bytes)) ≡ Some n → is_word (b ∷ c ∷ bytes) ≡ true
    go true k = absurd cc
    go false k = digits_word 0 (b ∷ c ∷ bytes) n k

-- ---- numbers that may be negative

record Negative (o : Option ℕ) (z : ℤ) : Type 0 where
  size : ℕ
  is : o ≡ Some (suc size)
  gives : z ≡ negsuc size

negative : (o : Option ℕ) (z : ℤ) → negative_of o ≡ Some z → Negative o z
negative None z h = absurd cc
negative (Some zero) z h = absurd cc
negative (Some (suc n)) z h =
    let k : Some (pos 0 -ℤ pos (suc n)) ≡ Some z = ap (λ (v : Bool). cond v None (Some (pos 0 -ℤ pos (suc n)))) (sym (eqb-suc-zero n)) ∙ h in
    let same : z ≡ pos 0 -ℤ pos (suc n) = cc in
    record { size = n; is = refl; gives = omega (arith, ints, same) }

record Positive (o : Option ℕ) (z : ℤ) : Type 0 where
  size : ℕ
  is : o ≡ Some size
  gives : z ≡ pos size

positive : (o : Option ℕ) (z : ℤ) → option_map (λ n. pos n) o ≡ Some z → Positive o z
positive None z h = absurd cc
positive (Some n) z h = record { size = n; is = refl; gives = cc }

pub read_signed : (word : List ℕ) (z : ℤ) → integer_of word ≡ Some z → (pos 0 -ℤ pos (2 ^ 63)) ≤ℤ z → z ≤ℤ (pos (2 ^ 63) -ℤ pos 1) → signed_decimal z ≡ word
read_signed [] z h low high = absurd cc
read_signed (b ∷ bytes) z h low high = go (eqb b 45) refl h
  where
    go : (v : Bool) → eqb b 45 ≡ v → cond v (negative_of (natural_of bytes)) (option_map (λ n. pos n) (natural_of (b ∷ bytes))) ≡ Some z → signed_decimal z ≡ b ∷ bytes
    go true e k =
        let n = negative (natural_of bytes) z k in
        let first : 45 ≡ b = grind (arith, nat_tests) in
        ap signed_decimal n.gives ∙ ap (λ (ds : List ℕ). 45 ∷ ds) (read_decimal bytes (suc n.size) n.is (omega (arith, ints, n.gives))) ∙ ap (λ (x : ℕ). x ∷ bytes) first
    go false e k =
        let n = positive (natural_of (b ∷ bytes)) z k in
        ap signed_decimal n.gives ∙ read_decimal (b ∷ bytes) n.size n.is (omega (arith, ints, n.gives))

pub signed_word : (word : List ℕ) (z : ℤ) → integer_of word ≡ Some z → is_word word ≡ true
signed_word [] z h = refl
signed_word (b ∷ bytes) z h = go (eqb b 45) refl h
  where
    go : (v : Bool) → eqb b 45 ≡ v → cond v (negative_of (natural_of bytes)) (option_map (λ n. pos n) (natural_of (b ∷ bytes))) ≡ Some z → is_word (b ∷ bytes) ≡ true
    go true e k =
        let n = negative (natural_of bytes) z k in
        let first : b ≡ 45 = grind (arith, nat_tests) in
        rw first (decimal_word bytes (suc n.size) n.is)
    go false e k = let n = positive (natural_of (b ∷ bytes)) z k in decimal_word (b ∷ bytes) n.size n.is
