-- What is printed of a name is read again as that name, and a name is read from what is printed of it alone.
use Rattle.std.proofs.Common.{◌≡◌, ℕ, suc, ◌+◌, ◌*◌, ◌/◌, ◌%◌, ◌<◌, Bool, true, false, cond, eqb, List, [], ◌∷◌, ◌++◌, length, get_or, Option, Some, None, refl, sym, ap, ◌∙◌, arith}
use Rattle.std.proofs.lemmas.Bool.Decides.{nat_tests}
use Rattle.std.specs.Prelude.{option_and_then}
use Rattle.wf_names.specs.declared.name_form.Escape.TheVariants.{Outside, Begun}
use Rattle.wf_base.specs.Bytes.{IsBytes}
use Rattle.wf_names.specs.NameForm.{is_plain, hex_digit, hex_value, escape_of, with_byte, escaped_byte, escaped, unescaped_from, name_of}

digit_again : (d : ℕ) → d < 16 → hex_value (hex_digit d) ≡ Some d
digit_again d lt = grind (arith, nat_tests)

plain_is_no_escape : (b : ℕ) → is_plain b ≡ true → eqb b 92 ≡ false
plain_is_no_escape b h = grind (arith, nat_tests)

byte_again : (b : ℕ) → is_plain b ≡ false → b < 256 → escape_of (hex_digit (b / 16)) (hex_digit (b % 16)) ≡ Some b
byte_again b plain lt =
    let high : hex_value (hex_digit (b / 16)) ≡ Some (b / 16) = digit_again (b / 16) (omega arith) in
    let low : hex_value (hex_digit (b % 16)) ≡ Some (b % 16) = digit_again (b % 16) (omega arith) in
    let whole : b / 16 * 16 + b % 16 ≡ b = omega arith in
    rw (high, low, whole, plain) refl

plain_on : (v w : Bool) (x y : Option (List ℕ)) (b : ℕ) → v ≡ false → w ≡ true → cond v x (with_byte (cond w (Some b) None) y) ≡ with_byte (Some b) y
plain_on true w x y b e f = cc
plain_on false true x y b e f = refl
plain_on false false x y b e f = cc

-- one byte of a name, before what follows
one_again : (b : ℕ) (rest : List ℕ) → b < 256 → unescaped_from Outside (escaped_byte b ++ rest) ≡ with_byte (Some b) (unescaped_from Outside rest)
unfolding unescaped_from
one_again b rest lt =
    elim (is_plain b) as (λ v. is_plain b ≡ v → unescaped_from Outside (cond v (b ∷ []) (92 ∷ hex_digit (b / 16) ∷ hex_digit (b % 16) ∷ []) ++ rest) ≡ with_byte (Some b) (unescaped_from Outside rest)) [
      | true ↦ λ plain. plain_on (eqb b 92) (is_plain b) (unescaped_from Begun rest) (unescaped_from Outside rest) b (plain_is_no_escape b plain) plain
      | false ↦ λ plain. rw (byte_again b plain lt) refl
    ] refl

pub name_again : (name : List ℕ) → ((i : ℕ) → get_or name i 0 < 256) → unescaped_from Outside (escaped name) ≡ Some name
unfolding unescaped_from
name_again [] bytes = refl
name_again (b ∷ name) bytes = one_again b (escaped name) (bytes 0) ∙ rw (name_again name (λ i. bytes (suc i))) refl

-- ---- the other way

-- a byte that is put before a name, taken apart
record Fronted (byte : Option ℕ) (rest : Option (List ℕ)) (name : List ℕ) : Type 0 where
  first : ℕ
  more : List ℕ
  byte_is : byte ≡ Some first
  rest_is : rest ≡ Some more
  name_is : name ≡ first ∷ more

fronted : (byte : Option ℕ) (rest : Option (List ℕ)) (name : List ℕ) → with_byte byte rest ≡ Some name → Fronted byte rest name
fronted None rest name h = cc
fronted (Some b) None name h = cc
fronted (Some b) (Some more) name h = record { first = b; more = more; byte_is = refl; rest_is = refl; name_is = cc }

digit_back : (d v : ℕ) → hex_value d ≡ Some v → (hex_digit v ≡ d) × (v < 16)
digit_back d v h = (grind (arith, nat_tests), grind (arith, nat_tests))

-- an escape, taken apart
record Escape (o p : Option ℕ) (b : ℕ) : Type 0 where
  high : ℕ
  low : ℕ
  high_is : o ≡ Some high
  low_is : p ≡ Some low
  odd : is_plain b ≡ false
  is : b ≡ high * 16 + low

escape_parts : (o p : Option ℕ) (b : ℕ) → option_and_then (λ h. option_and_then (λ l. cond (is_plain (h * 16 + l)) None (Some (h * 16 + l))) p) o ≡ Some b → Escape o p b
escape_parts None p b h = cc
escape_parts (Some v) None b h = cc
escape_parts (Some v) (Some w) b h = go (is_plain (v * 16 + w)) refl h
  where
    go : (t : Bool) → is_plain (v * 16 + w) ≡ t → cond t None (Some (v * 16 + w)) ≡ Some b → Escape (Some v) (Some w) b
    go true e f = cc
    go false e f = let is : b ≡ v * 16 + w = cc in record { high = v; low = w; high_is = refl; low_is = refl; odd = ap is_plain is ∙ e; is = is }

-- an escape is what is printed of its byte
escape_back : (high low b : ℕ) → escape_of high low ≡ Some b → escaped_byte b ≡ 92 ∷ high ∷ low ∷ []
escape_back high low b h =
    let e = escape_parts (hex_value high) (hex_value low) b h in
    let first = digit_back high e.high e.high_is in
    let second = digit_back low e.low e.low_is in
    let over : b / 16 ≡ e.high = omega (arith, e.is, second.1) in
    let under : b % 16 ≡ e.low = omega (arith, e.is, second.1) in
    let odd : is_plain b ≡ false = e.odd in
    ap (λ (v : Bool). cond v (b ∷ []) (92 ∷ hex_digit (b / 16) ∷ hex_digit (b % 16) ∷ [])) odd
    ∙ ap (λ (x : ℕ). 92 ∷ hex_digit x ∷ hex_digit (b % 16) ∷ []) over ∙ ap (λ (x : ℕ). 92 ∷ hex_digit e.high ∷ hex_digit x ∷ []) under
    ∙ ap (λ (x : ℕ). 92 ∷ x ∷ hex_digit e.low ∷ []) first.0 ∙ ap (λ (x : ℕ). 92 ∷ high ∷ x ∷ []) second.0

plain_is_printed : (b : ℕ) → is_plain b ≡ true → escaped_byte b ≡ b ∷ []
plain_is_printed b plain = ap (λ (v : Bool). cond v (b ∷ []) (92 ∷ hex_digit (b / 16) ∷ hex_digit (b % 16) ∷ [])) plain

some_plain : (v : Bool) (b first : ℕ) → cond v (Some b) None ≡ Some first → (v ≡ true) × (b ≡ first)
some_plain true b first h = (refl, cc)
some_plain false b first h = cc

plain_back : (b : ℕ) (word name : List ℕ) → ((n : List ℕ) → unescaped_from Outside word ≡ Some n → escaped n ≡ word)
    → with_byte (cond (is_plain b) (Some b) None) (unescaped_from Outside word) ≡ Some name → escaped name ≡ b ∷ word
plain_back b word name rest h =
    let f = fronted (cond (is_plain b) (Some b) None) (unescaped_from Outside word) name h in
    let p = some_plain (is_plain b) b f.first f.byte_is in
    ap escaped f.name_is ∙ ap (λ (x : ℕ). escaped_byte x ++ escaped f.more) (sym p.1) ∙ ap (λ (bytes : List ℕ). bytes ++ escaped f.more) (plain_is_printed b p.0) ∙ ap (λ (bytes : List ℕ). b ∷ bytes) (rest f.more f.rest_is)

escaped_back : (c d : ℕ) (word name : List ℕ) → ((n : List ℕ) → unescaped_from Outside word ≡ Some n → escaped n ≡ word)
    → with_byte (escape_of c d) (unescaped_from Outside word) ≡ Some name → escaped name ≡ 92 ∷ c ∷ d ∷ word
escaped_back c d word name rest h =
    let f = fronted (escape_of c d) (unescaped_from Outside word) name h in
    ap escaped f.name_is ∙ ap (λ (bytes : List ℕ). bytes ++ escaped f.more) (escape_back c d f.first f.byte_is) ∙ ap (λ (bytes : List ℕ). 92 ∷ c ∷ d ∷ bytes) (rest f.more f.rest_is)

last_back : (v : Bool) (b : ℕ) (word name : List ℕ) → ((n : List ℕ) → unescaped_from Outside word ≡ Some n → escaped n ≡ word)
    → cond v None (with_byte (cond (is_plain b) (Some b) None) (unescaped_from Outside word)) ≡ Some name → escaped name ≡ b ∷ word
last_back true b word name rest h = cc
last_back false b word name rest h = plain_back b word name rest h

more_back : (v : Bool) (b c d : ℕ) (word name : List ℕ) → eqb b 92 ≡ v → ((n : List ℕ) → unescaped_from Outside word ≡ Some n → escaped n ≡ word)
    → ((n : List ℕ) → unescaped_from Outside (c ∷ d ∷ word) ≡ Some n → escaped n ≡ c ∷ d ∷ word)
    → cond v (with_byte (escape_of c d) (unescaped_from Outside word)) (with_byte (cond (is_plain b) (Some b) None) (unescaped_from Outside (c ∷ d ∷ word))) ≡ Some name → escaped name ≡ b ∷ c ∷ d ∷ word
more_back true b c d word name e behind rest h = let is : 92 ≡ b = grind (arith, nat_tests) in escaped_back c d word name behind h ∙ ap (λ (x : ℕ). x ∷ c ∷ d ∷ word) is
more_back false b c d word name e behind rest h = plain_back b (c ∷ d ∷ word) name rest h

-- a word that is read as a name is what is printed of it
pub name_back : (word name : List ℕ) → unescaped_from Outside word ≡ Some name → escaped name ≡ word
unfolding unescaped_from
name_back [] name h = let is : [] ≡ name = cc in ap escaped (sym is)
name_back (b ∷ []) name h = last_back (eqb b 92) b [] name (λ n. name_back [] n) h
name_back (b ∷ c ∷ []) name h = last_back (eqb b 92) b (c ∷ []) name (λ n. name_back (c ∷ []) n) h
name_back (b ∷ c ∷ d ∷ word) name h = more_back (eqb b 92) b c d word name refl (λ n. name_back word n) (λ n. name_back (c ∷ d ∷ word) n) h

-- what is printed of a name with a byte has one
nonempty : (v : Bool) (b : ℕ) (bytes : List ℕ) → eqb (length (cond v (b ∷ []) (92 ∷ hex_digit (b / 16) ∷ hex_digit (b % 16) ∷ []) ++ bytes)) 0 ≡ false
nonempty true b bytes = grind (arith, nat_tests)
nonempty false b bytes = grind (arith, nat_tests)

pub printed_is_read : (name : List ℕ) → IsBytes name → 0 < length name → name_of (escaped name) ≡ Some name
printed_is_read [] h lt = absurd (omega arith)
printed_is_read (b ∷ name) h lt =
    ap (λ (v : Bool). cond v None (unescaped_from Outside (escaped (b ∷ name)))) (nonempty (is_plain b) b (escaped name)) ∙ name_again (b ∷ name) h.each

taken : (v : Bool) (word name : List ℕ) → cond v None (unescaped_from Outside word) ≡ Some name → unescaped_from Outside word ≡ Some name
taken true word name h = cc
taken false word name h = h

pub read_is_printed : (word name : List ℕ) → name_of word ≡ Some name → escaped name ≡ word
read_is_printed word name h = name_back word name (taken (eqb (length word) 0) word name h)
