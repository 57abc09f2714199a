-- The lines of a report, cut off one after the other.
use Rattle.std.proofs.Common.{◌≡◌, ℕ, ◌+◌, Bool, true, false, cond, eqb, ltb, List, [], ◌∷◌, ◌++◌, length, get_or, take, drop, Option, Some, None, Result, Ok, refl, sym, ap, ◌∙◌, append_assoc, length-append, arith}
use Rattle.std.proofs.lemmas.Bool.{eqb-true, lt-ltb}
use Rattle.std.proofs.lemmas.List.{drop_more, take-append-drop, take_at, drop_at, length_push}
use Rattle.std.proofs.lemmas.List.Quantifiers.{position-Some}
use Rattle.std.specs.List.{position, position_or_len}
use Rattle.std.proofs.lemmas.Bool.{and_parts}
use Rattle.std.proofs.lemmas.Bool.Decides.{nat_tests}
use Rattle.std.specs.Prelude.{nat_le, ◌&&◌}
use Rattle.wf_lines.specs.Lines.{is_line, line}
use Rattle.wf_report.specs.Reading.{Place, spot, cut_at, cut, at_line, in_cut, say}

cut_parts : (text : List ℕ) (o : Option ℕ) (parts : List ℕ × List ℕ) → position (λ b. eqb b 10) text ≡ o → cut_at o text ≡ Some parts → text ≡ line parts.0 ++ parts.1
cut_parts text None parts at h = absurd cc
cut_parts text (Some i) parts at h =
    let found = position-Some (λ b. eqb b 10) text i 0 at in
    let feed : get_or text i 0 ≡ 10 = eqb-true (get_or text i 0) 10 found.1 in
    let first : take i text ≡ parts.0 = cc in
    let second : drop (i + 1) text ≡ parts.1 = cc in
    sym (append_assoc parts.0 (10 ∷ []) parts.1 ∙ ap (λ (l : List ℕ). l ++ 10 ∷ parts.1) (sym first) ∙ ap (λ (r : List ℕ). take i text ++ 10 ∷ r) (sym second)
    ∙ ap (λ (b : ℕ). take i text ++ b ∷ drop (i + 1) text) (sym feed) ∙ ap (λ (r : List ℕ). take i text ++ r) (sym (drop_more text i 0 found.0)) ∙ take-append-drop i text)

-- a line that is cut off and says something
pub record SaysLine {X : Type 0} (said : List ℕ → Option X) (p : Place) (x : X) (q : Place) : Type 0 where
  pub text : List ℕ
  pub front : p.left ≡ line text ++ q.left
  pub says : said text ≡ Some x

said_line : {X : Type 0} (said : List ℕ → Option X) (p : Place) (x : X) (q : Place) (o : Option (List ℕ × List ℕ)) → cut p.left ≡ o → in_cut said p.line o ≡ Ok (x, q) → SaysLine said p x q
said_line said p x q None e h = absurd cc
said_line {X} said p x q (Some parts) e h = go (said parts.0) refl h
  where
    go : (o : Option X) → said parts.0 ≡ o → at_line p.line parts.1 o ≡ Ok (x, q) → SaysLine said p x q
    go None s k = absurd cc
    go (Some y) s k =
        let pair : ◌≡◌ {A = X × Place} (y, spot (p.line + 1) parts.1) (x, q) = ok_is (y, spot (p.line + 1) parts.1) (x, q) k in
        let value : y ≡ x = ap (λ (r : X × Place). r.0) pair in
        let rest : parts.1 ≡ q.left = ap (λ (r : X × Place). r.1.left) pair in
        record { text = parts.0; front = cut_parts p.left (position (λ b. eqb b 10) p.left) parts refl e ∙ ap (λ (r : List ℕ). line parts.0 ++ r) rest; says = s ∙ ap (λ (z : X). Some z) value }
      where
        ok_is : (a b : X × Place) → ◌≡◌ {A = Result (X × Place) ℕ} (Ok a) (Ok b) → a ≡ b
        ok_is a b k = cc

pub says_line : {X : Type 0} (said : List ℕ → Option X) (p : Place) (x : X) (q : Place) → say said p ≡ Ok (x, q) → SaysLine said p x q
says_line said p x q h = said_line said p x q (cut p.left) refl h

-- ---- a line that is printed

no_feed_byte : (b : ℕ) → (nat_le 32 b && nat_le b 126) ≡ true → eqb b 10 ≡ false
no_feed_byte b h = grind (arith, nat_tests)

first_feed : (text rest : List ℕ) → is_line text ≡ true → position_or_len (λ b. eqb b 10) (text ++ 10 ∷ rest) ≡ length text
first_feed [] rest h = refl
first_feed (b ∷ text) rest h =
    let parts = and_parts (nat_le 32 b && nat_le b 126) (is_line text) h in
    rw (no_feed_byte b parts.0, first_feed text rest parts.1) (omega arith)

feed_at : (text rest : List ℕ) → is_line text ≡ true → position (λ b. eqb b 10) (text ++ 10 ∷ rest) ≡ Some (length text)
feed_at text rest h =
    let n = length (text ++ 10 ∷ rest) in
    let at : position_or_len (λ b. eqb b 10) (text ++ 10 ∷ rest) ≡ length text = first_feed text rest h in
    let in_it : ltb (length text) n ≡ true = lt-ltb (length text) n (omega (arith, length-append text (10 ∷ rest))) in
    ap (λ (i : ℕ). cond (ltb i n) (Some i) None) at ∙ ap (λ (v : Bool). cond v (Some (length text)) None) in_it

cut_line : (text rest : List ℕ) → is_line text ≡ true → cut (line text ++ rest) ≡ Some (text, rest)
cut_line text rest h =
    let whole = text ++ 10 ∷ rest in
    let behind : drop (length text + 1) whole ≡ rest =
    ap (λ (w : List ℕ). drop (length text + 1) w) (sym (append_assoc text (10 ∷ []) rest)) ∙ drop_at (text ++ 10 ∷ []) rest (length text + 1) (length_push text 10) in
    ap cut (append_assoc text (10 ∷ []) rest) ∙ ap (λ (o : Option ℕ). cut_at o whole) (feed_at text rest h)
    ∙ ap (λ (l : List ℕ). Some (l, drop (length text + 1) whole)) (take_at text (10 ∷ rest) (length text) refl) ∙ ap (λ (r : List ℕ). Some (text, r)) behind

pub say_line : {X : Type 0} (said : List ℕ → Option X) (n : ℕ) (text rest : List ℕ) (x : X) → is_line text ≡ true → said text ≡ Some x → say said (spot n (line text ++ rest)) ≡ Ok (x, spot (n + 1) rest)
say_line {X} said n text rest x is h = ap (λ (o : Option (List ℕ × List ℕ)). in_cut said n o) (cut_line text rest is) ∙ ap (λ (o : Option X). at_line n rest o) h
