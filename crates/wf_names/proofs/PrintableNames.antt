-- A word that is read as a name has printable bytes alone.
use Rattle.std.proofs.Common.{◌≡◌, ℕ, ◌+◌, ◌*◌, Bool, true, false, ◌&&◌, cond, eqb, leb, List, [], ◌∷◌, length, Option, Some, None, refl, arith}
use Rattle.std.proofs.lemmas.Bool.Decides.{nat_tests}
use Rattle.std.proofs.lemmas.Option.{option_and_then_some}
use Rattle.std.specs.List.{list_all}
use Rattle.std.specs.Prelude.{option_and_then, option_map}
use Rattle.wf_names.specs.declared.name_form.Escape.{Escape}
use Rattle.wf_names.specs.declared.name_form.Escape.TheVariants.{Outside, Begun, High}
use Rattle.wf_names.specs.NameForm.{is_plain, hex_value, escape_of, with_byte, unescaped_from, name_of}

mapped : {A B P : Type 0} (f : A → B) (o : Option A) (y : B) → option_map f o ≡ Some y → ((x : A) → o ≡ Some x → P) → P
mapped f None y h go = absurd cc
mapped f (Some x) y h go = go x refl

abbrev printed : ℕ → Bool
printed b = leb 33 b && leb b 126

abbrev all_printed : List ℕ → Bool
all_printed word = list_all (λ b. leb 33 b && leb b 126) word

-- what is to be shown of the bytes, with the digit that is read already
abbrev goes_in : Escape → List ℕ → Bool
goes_in Outside word = all_printed word
goes_in Begun word = all_printed word
goes_in (High h) word = printed h && all_printed word

plain_printed : (b : ℕ) → is_plain b ≡ true → printed b ≡ true
plain_printed b h = grind (arith, nat_tests)

digit_printed : (d v : ℕ) → hex_value d ≡ Some v → printed d ≡ true
digit_printed d v h = grind (arith, nat_tests)

escape_printed : (high low b : ℕ) → escape_of high low ≡ Some b → (printed high ≡ true) × (printed low ≡ true)
escape_printed high low b h =
    option_and_then_some (λ v. option_and_then (λ l. cond (is_plain (v * 16 + l)) None (Some (v * 16 + l))) (hex_value low)) (hex_value high) b h
    (λ v first k. option_and_then_some (λ l. cond (is_plain (v * 16 + l)) None (Some (v * 16 + l))) (hex_value low) b k (λ l second m. (digit_printed high v first, digit_printed low l second)))

some_plain : (b byte : ℕ) → cond (is_plain b) (Some b) None ≡ Some byte → is_plain b ≡ true
some_plain b byte h = go (is_plain b) refl h
  where
    go : (v : Bool) → is_plain b ≡ v → cond v (Some b) None ≡ Some byte → is_plain b ≡ true
    go true e k = e
    go false e k = absurd cc

outside : (v : Bool) (b : ℕ) (bytes name : List ℕ) → eqb b 92 ≡ v → ((n : List ℕ) → unescaped_from Begun bytes ≡ Some n → all_printed bytes ≡ true)
    → ((n : List ℕ) → unescaped_from Outside bytes ≡ Some n → all_printed bytes ≡ true)
    → cond v (unescaped_from Begun bytes) (with_byte (cond (is_plain b) (Some b) None) (unescaped_from Outside bytes)) ≡ Some name → all_printed (b ∷ bytes) ≡ true
outside true b bytes name e begun plain h =
    let one : printed b ≡ true = grind (arith, nat_tests) in
    rw (one, begun name h) refl
outside false b bytes name e begun plain h =
    option_and_then_some (λ byte. option_map (λ bs. byte ∷ bs) (unescaped_from Outside bytes)) (cond (is_plain b) (Some b) None) name h
    (λ byte first m. mapped (λ (bs : List ℕ). byte ∷ bs) (unescaped_from Outside bytes) name m (λ rest r.
    rw (plain_printed b (some_plain b byte first), plain rest r) refl))

word_bytes : (e : Escape) (word name : List ℕ) → unescaped_from e word ≡ Some name → goes_in e word ≡ true
unfolding unescaped_from
word_bytes Outside [] name h = refl
word_bytes Begun [] name h = absurd cc
word_bytes (High d) [] name h = absurd cc
word_bytes Outside (b ∷ bytes) name h = outside (eqb b 92) b bytes name refl (λ n. word_bytes Begun bytes n) (λ n. word_bytes Outside bytes n) h
word_bytes Begun (b ∷ bytes) name h = word_bytes (High b) bytes name h
word_bytes (High d) (b ∷ bytes) name h =
    option_and_then_some (λ byte. option_map (λ bs. byte ∷ bs) (unescaped_from Outside bytes)) (escape_of d b) name h
    (λ byte first m. mapped (λ (bs : List ℕ). byte ∷ bs) (unescaped_from Outside bytes) name m (λ rest r.
    let digits = escape_printed d b byte first in
    rw (digits.0, digits.1, word_bytes Outside bytes rest r) refl))

pub name_printable : (word name : List ℕ) → name_of word ≡ Some name → all_printed word ≡ true
name_printable word name h = go (eqb (length word) 0) h
  where
    go : (v : Bool) → cond v None (unescaped_from Outside word) ≡ Some name → all_printed word ≡ true
    go true k = absurd cc
    go false k = word_bytes Outside word name k
