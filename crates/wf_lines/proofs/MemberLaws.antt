-- Members are told by their two words.
use Rattle.std.proofs.Common.{◌≡◌, ℕ, suc, ◌+◌, ◌/◌, ◌%◌, ◌<◌, Bool, true, false, not, ◌&&◌, ◌||◌, cond, eqb, leb, ltb, List, [], ◌∷◌, ◌++◌, length, get_or, take, drop, Option, Some, None, refl, sym, ap, ◌∙◌, append_assoc, length-append, arith}
use Rattle.std.proofs.lemmas.Bool.{eqb-true, lt-ltb}
use Rattle.std.proofs.lemmas.Bool.Decides.{nat_tests}
use Rattle.std.proofs.lemmas.List.{drop_more, take-append-drop, take_at, drop_at, length_push}
use Rattle.std.proofs.lemmas.List.Quantifiers.{position-Some}
use Rattle.std.specs.List.{list_any, position, position_or_len}
use Rattle.wf_base.specs.Bytes.{IsBytes}
use Rattle.wf_names.specs.declared.member.MemberName.{MemberName}
use Rattle.wf_names.specs.NameForm.{is_plain, hex_digit, escaped_byte, escaped, member_of, name_of}
use Rattle.wf_lines.specs.Lines.{is_word, are_words}
use Rattle.wf_lines.specs.Members.{◌>>=◌, divided, member_said, member_words, IsPrintedMember}
use Rattle.wf_lines.proofs.WordLaws.{all_append}

-- what the law of names in the printed form says
abbrev pub Printed : Type 0
Printed = (name : List ℕ) → IsBytes name → 0 < length name → name_of (escaped name) ≡ Some name

abbrev pub Read : Type 0
Read = (word name : List ℕ) → name_of word ≡ Some name → escaped name ≡ word

pub chained : {A B P : Type 0} (f : A → Option B) (o : Option A) (y : B) → (o >>= f) ≡ Some y → ((x : A) → o ≡ Some x → f x ≡ Some y → P) → P
chained f None y h go = absurd cc
chained f (Some x) y h go = go x refl h

-- ---- a member that is read

record Parts (word desc : List ℕ) (m : MemberName) : Type 0 where
  dot : ℕ
  at : position (λ b. eqb b 46) word ≡ Some dot
  class : name_of (take dot word) ≡ Some m.class
  name : name_of (drop (dot + 1) word) ≡ Some m.name
  third : name_of desc ≡ Some m.desc

parts_of : (word desc : List ℕ) (m : MemberName) → member_said word desc ≡ Some m → Parts word desc m
parts_of word desc m h =
    chained (λ names. name_of desc >>= λ d. Some (member_of names.0 names.1 d)) (divided (position (λ b. eqb b 46) word) word) m h
    (λ names first k. chained (λ d. Some (member_of names.0 names.1 d)) (name_of desc) m k (λ d second is.
    at_dot (position (λ b. eqb b 46) word) refl names d first second cc))
  where
    at_dot : (o : Option ℕ) → position (λ b. eqb b 46) word ≡ o → (names : List ℕ × List ℕ) (d : List ℕ) → divided o word ≡ Some names → name_of desc ≡ Some d → m ≡ member_of names.0 names.1 d → Parts word desc m
    at_dot None e names d first second is = absurd cc
    at_dot (Some i) e names d first second is =
        chained (λ class. name_of (drop (i + 1) word) >>= λ name. Some (class, name)) (name_of (take i word)) names first
        (λ class one k. chained (λ name. Some (class, name)) (name_of (drop (i + 1) word)) names k (λ name two pair. record {
          dot = i;
          at = e;
          class = cc;
          name = cc;
          third = cc;
        }))

put_together : (word : List ℕ) (i : ℕ) → position (λ b. eqb b 46) word ≡ Some i → take i word ++ 46 ∷ drop (i + 1) word ≡ word
put_together word i h =
    let found = position-Some (λ b. eqb b 46) word i 0 h in
    let dot : get_or word i 0 ≡ 46 = eqb-true (get_or word i 0) 46 found.1 in
    ap (λ (b : ℕ). take i word ++ b ∷ drop (i + 1) word) (sym dot) ∙ ap (λ (rest : List ℕ). take i word ++ rest) (sym (drop_more word i 0 found.0)) ∙ take-append-drop i word

abbrev printed : ℕ → Bool
printed b = leb 33 b && leb b 126

-- what the law of names says of the bytes of words
abbrev pub Printable : Type 0
Printable = (word name : List ℕ) → name_of word ≡ Some name → is_word word ≡ true

pub member_read : Read → (word desc : List ℕ) (m : MemberName) → member_said word desc ≡ Some m → member_words m ≡ word ∷ desc ∷ []
member_read read word desc m h =
    let p = parts_of word desc m h in
    ap (λ (w : List ℕ). (w ++ 46 ∷ escaped m.name) ∷ escaped m.desc ∷ []) (read (take p.dot word) m.class p.class)
    ∙ ap (λ (w : List ℕ). (take p.dot word ++ 46 ∷ w) ∷ escaped m.desc ∷ []) (read (drop (p.dot + 1) word) m.name p.name)
    ∙ ap (λ (w : List ℕ). w ∷ escaped m.desc ∷ []) (put_together word p.dot p.at)
    ∙ ap (λ (w : List ℕ). word ∷ w ∷ []) (read desc m.desc p.third)

pub member_are_words : Printable → (word desc : List ℕ) (m : MemberName) → member_said word desc ≡ Some m → are_words (word ∷ desc ∷ []) ≡ true
member_are_words name_word word desc m h =
    let p = parts_of word desc m h in
    let back : is_word (46 ∷ drop (p.dot + 1) word) ≡ true = name_word (drop (p.dot + 1) word) m.name p.name in
    let first : is_word word ≡ true = ap is_word (sym (put_together word p.dot p.at)) ∙ all_append printed (take p.dot word) (46 ∷ drop (p.dot + 1) word) (name_word (take p.dot word) m.class p.class) back in
    rw (first, name_word desc m.desc p.third) refl

-- ---- a member that is printed

no_dot_append : (xs ys : List ℕ) → list_any (λ b. eqb b 46) xs ≡ false → list_any (λ b. eqb b 46) ys ≡ false → list_any (λ b. eqb b 46) (xs ++ ys) ≡ false
no_dot_append [] ys h k = k
no_dot_append (x ∷ xs) ys h k = go (eqb x 46) refl (λ m. no_dot_append xs ys m k) h
  where
    go : (v : Bool) → eqb x 46 ≡ v → (list_any (λ b. eqb b 46) xs ≡ false → list_any (λ b. eqb b 46) (xs ++ ys) ≡ false) → (v || list_any (λ b. eqb b 46) xs) ≡ false → (eqb x 46 || list_any (λ b. eqb b 46) (xs ++ ys)) ≡ false
    go true e rest m = absurd cc
    go false e rest m = rw (e, rest m) refl

no_dot_digit : (d : ℕ) → eqb (hex_digit d) 46 ≡ false
no_dot_digit d = grind (arith, nat_tests)

no_dot_byte : (b : ℕ) → eqb b 46 ≡ false → list_any (λ x. eqb x 46) (escaped_byte b) ≡ false
no_dot_byte b h = go (is_plain b)
  where
    go : (v : Bool) → list_any (λ x. eqb x 46) (cond v (b ∷ []) (92 ∷ hex_digit (b / 16) ∷ hex_digit (b % 16) ∷ [])) ≡ false
    go true = rw h refl
    go false = rw (no_dot_digit (b / 16), no_dot_digit (b % 16)) refl

no_dot_name : (name : List ℕ) → list_any (λ b. eqb b 46) name ≡ false → list_any (λ b. eqb b 46) (escaped name) ≡ false
no_dot_name [] h = refl
no_dot_name (b ∷ name) h = go (eqb b 46) refl (λ m. no_dot_name name m) h
  where
    go : (v : Bool) → eqb b 46 ≡ v → (list_any (λ x. eqb x 46) name ≡ false → list_any (λ x. eqb x 46) (escaped name) ≡ false) → (v || list_any (λ x. eqb x 46) name) ≡ false → list_any (λ x. eqb x 46) (escaped_byte b ++ escaped name) ≡ false
    go true e rest m = absurd cc
    go false e rest m = no_dot_append (escaped_byte b) (escaped name) (no_dot_byte b e) (rest m)

first_dot : (xs ys : List ℕ) → list_any (λ b. eqb b 46) xs ≡ false → position_or_len (λ b. eqb b 46) (xs ++ 46 ∷ ys) ≡ length xs
first_dot [] ys h = refl
first_dot (x ∷ xs) ys h = go (eqb x 46) refl (λ m. first_dot xs ys m) h
  where
    go : (v : Bool) → eqb x 46 ≡ v → (list_any (λ b. eqb b 46) xs ≡ false → position_or_len (λ b. eqb b 46) (xs ++ 46 ∷ ys) ≡ length xs) → (v || list_any (λ b. eqb b 46) xs) ≡ false
        → cond (not (eqb x 46)) (1 + position_or_len (λ b. eqb b 46) (xs ++ 46 ∷ ys)) 0 ≡ suc (length xs)
    go true e rest m = absurd cc
    go false e rest m = rw (e, rest m) (omega arith)

dot_at : (xs ys : List ℕ) → list_any (λ b. eqb b 46) xs ≡ false → position (λ b. eqb b 46) (xs ++ 46 ∷ ys) ≡ Some (length xs)
dot_at xs ys h =
    let n = length (xs ++ 46 ∷ ys) in
    let at : position_or_len (λ b. eqb b 46) (xs ++ 46 ∷ ys) ≡ length xs = first_dot xs ys h in
    let in_it : ltb (length xs) n ≡ true = lt-ltb (length xs) n (omega (arith, length-append xs (46 ∷ ys))) in
    ap (λ (i : ℕ). cond (ltb i n) (Some i) None) at ∙ ap (λ (v : Bool). cond v (Some (length xs)) None) in_it

said_again : Printed → (m : MemberName) → IsPrintedMember m → member_said (escaped m.class ++ 46 ∷ escaped m.name) (escaped m.desc) ≡ Some m
said_again names m is =
    let front = escaped m.class in
    let back = escaped m.name in
    let word = front ++ 46 ∷ back in
    let class : name_of (take (length front) word) ≡ Some m.class = ap name_of (take_at front (46 ∷ back) (length front) refl) ∙ names m.class is.class.bytes is.class.some in
    let behind : drop (length front + 1) word ≡ back =
    ap (λ (w : List ℕ). drop (length front + 1) w) (sym (append_assoc front (46 ∷ []) back)) ∙ drop_at (front ++ 46 ∷ []) back (length front + 1) (length_push front 46) in
    let name : name_of (drop (length front + 1) word) ≡ Some m.name = ap name_of behind ∙ names m.name is.name.bytes is.name.some in
    let at : position (λ b. eqb b 46) word ≡ Some (length front) = dot_at front back (no_dot_name m.class is.undotted) in
    let split : divided (position (λ b. eqb b 46) word) word ≡ Some (m.class, m.name) =
    ap (λ (o : Option ℕ). divided o word) at ∙ ap (λ (o : Option (List ℕ)). o >>= λ c. name_of (drop (length front + 1) word) >>= λ n. Some (c, n)) class ∙ ap (λ (o : Option (List ℕ)). o >>= λ n. Some (m.class, n)) name in
    ap (λ (o : Option (List ℕ × List ℕ)). o >>= λ ns. name_of (escaped m.desc) >>= λ d. Some (member_of ns.0 ns.1 d)) split ∙ ap (λ (o : Option (List ℕ)). o >>= λ d. Some (member_of m.class m.name d)) (names m.desc is.desc.bytes is.desc.some)

pub member_printed : Printed → (m : MemberName) (word desc : List ℕ) → IsPrintedMember m → member_words m ≡ word ∷ desc ∷ [] → member_said word desc ≡ Some m
member_printed names m word desc is same =
    let first : escaped m.class ++ 46 ∷ escaped m.name ≡ word = cc in
    let second : escaped m.desc ≡ desc = cc in
    ap (λ (w : List ℕ). member_said w desc) (sym first) ∙ ap (λ (d : List ℕ). member_said (escaped m.class ++ 46 ∷ escaped m.name) d) (sym second) ∙ said_again names m is
