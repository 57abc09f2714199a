-- Results that lie between bounds, one after another.
use Rattle.std.proofs.Common.{◌≡◌, ℕ, zero, suc, ◌-◌, ◌^◌, ◌||◌, ◌⊎◌, inl, inr, if◌then◌else◌, bit_or, subst, subst₂, ◌+◌, ◌<◌, ◌≤◌, bit_and, count_ones, nat_lt, lt-ltb, ltb-true, Bool, true, false, not, ◌&&◌, ◌==◌, List, [], ◌∷◌, ◌++◌, refl, sym, ap, ◌∙◌, arith, append_assoc, add-one, eq-eqb, eqb-true}
use Rattle.std.specs.Int.{bit_at}
use Rattle.std.proofs.lemmas.Bool.{true≢false, not_from_false, and_parts, and_from, or_cases, or_right}
use Rattle.std.proofs.lemmas.List.{append-nil}
use Rattle.std.proofs.lemmas.Nat.Bits.{bit_at-lt}
use Rattle.wf_lattice.specs.Words.{IsIn, is_empty, counted, types_of}
use Rattle.wf_lattice.proofs.BitLaws.{in_bits, in_itself, and_grows, or_grows, ones_in}
use Rattle.wf_lattice.proofs.RowLaws.{word_of_nothing, word_there, counted_more}
use Rattle.wf_system.specs.Rows.{word_where}
use Rattle.wf_system.specs.System.{some_type}
use Rattle.wf_system.proofs.RowLaws.{if_grows, some_from}
use Rattle.wf_eval.specs.Said.{Seen, Grows, AreAtLeast, AreAtMost, Said, SaidWord, SaidCount, SaidBool}

least_parts : (x : ℕ → ℕ) (a b : List (ℕ × ℕ)) → AreAtLeast x (a ++ b) → AreAtLeast x a × AreAtLeast x b
least_parts x [] b h = (tt, h)
least_parts x (e ∷ a) b h = let rest : AreAtLeast x a × AreAtLeast x b = least_parts x a b h.1 in ((h.0, rest.0), rest.1)

most_parts : (x : ℕ → ℕ) (a b : List (ℕ × ℕ)) → AreAtMost x (a ++ b) → AreAtMost x a × AreAtMost x b
most_parts x [] b h = (tt, h)
most_parts x (e ∷ a) b h = let rest : AreAtMost x a × AreAtMost x b = most_parts x a b h.1 in ((h.0, rest.0), rest.1)

-- nothing was asked
pub said_at_once : {Low High : (ℕ → ℕ) → Type 0} (s : Seen) → ((x : ℕ → ℕ) → Low x) → ((x : ℕ → ℕ) → High x) → Said Low High s s
said_at_once s low high = record { given = []; log = sym (append-nil s.log); count = refl; kept = refl; grows = λ g. g; low = λ x h. low x; high = λ x h. high x }

-- what follows from what was said
pub said_so : {L H Low High : (ℕ → ℕ) → Type 0} {a b : Seen} → Said L H a b → ((x : ℕ → ℕ) → L x → Low x) → ((x : ℕ → ℕ) → H x → High x) → Said Low High a b
said_so p low high = record { given = p.given; log = p.log; count = p.count; kept = p.kept; grows = p.grows; low = λ x h. low x (p.low x h); high = λ x h. high x (p.high x h) }

-- and from two things said one after the other
pub said_then : {L H M I Low High : (ℕ → ℕ) → Type 0} {a b c : Seen} → Said L H a b → Said M I b c
    → ((x : ℕ → ℕ) → L x → M x → Low x) → ((x : ℕ → ℕ) → H x → I x → High x) → Said Low High a c
said_then {a = a} {c = c} p q low high = record {
  given = p.given ++ q.given;
  log = q.log ∙ ap (λ (l : List (ℕ × ℕ)). l ++ q.given) p.log ∙ append_assoc a.log p.given q.given;
  count = q.count ∙ p.count;
  kept = q.kept ∙ p.kept;
  grows = λ g. q.grows (p.grows g);
  low = λ x h. let parts : AreAtLeast x p.given × AreAtLeast x q.given = least_parts x p.given q.given h in low x (p.low x parts.0) (q.low x parts.1);
  high = λ x h. let parts : AreAtMost x p.given × AreAtMost x q.given = most_parts x p.given q.given h in high x (p.high x parts.0) (q.high x parts.1);
}

bit_rises : (a b i : ℕ) → IsIn a b → (bit_at a i == 1) ≡ true → (bit_at b i == 1) ≡ true
bit_rises a b i p e = eq-eqb (bit_at b i) 1 (omega (arith, in_bits a b i p, eqb-true (bit_at a i) 1 e, bit_at-lt b i))

-- a bit of a word
pub said_bit : {f : (ℕ → ℕ) → ℕ} {a b : Seen} {w : ℕ} (i : ℕ) → SaidWord f a b w → SaidBool (λ x. bit_at (f x) i == 1) a b (bit_at w i == 1)
said_bit {f} {a} {b} {w} i p = said_so p (λ x h e. bit_rises (f x) w i h e) (λ x h e. bit_rises w (f x) i h e)

-- loops over the words of a row: none is set below k, and one more
pub any_more : (row : (ℕ → ℕ) → ℕ → ℕ) {a b c : Seen} (k w : ℕ) → w ≡ 0 → SaidBool (λ x. not (is_empty k (row x))) a b false → SaidWord (λ x. row x k) b c w
    → SaidBool (λ x. not (is_empty (k + 1) (row x))) a c false
any_more row {a} {b} {c} k w z p q = rw add-one (said_then p q
    (λ x before h. λ e. before (grown x (word_of_nothing (row x k) w h z) e)) (λ x before h e. absurd cc))
  where
    grown : (x : ℕ → ℕ) → row x k ≡ 0 → not (is_empty (suc k) (row x)) ≡ true → not (is_empty k (row x)) ≡ true
    grown x none e = go (is_empty k (row x)) (row x k == 0) (eq-eqb (row x k) 0 none) e
      where
        go : (b d : Bool) → d ≡ true → not (b && d) ≡ true → not b ≡ true
        go true true h e = e
        go true false h e = absurd (true≢false (sym h))
        go false d h e = refl

pub any_found : (row : (ℕ → ℕ) → ℕ → ℕ) {a b c : Seen} (n k w : ℕ) → k < n → (w ≡ 0 → ⊥) → SaidBool (λ x. not (is_empty k (row x))) a b false → SaidWord (λ x. row x k) b c w
    → SaidBool (λ x. not (is_empty n (row x))) a c true
any_found row {a} {b} {c} n k w lt some p q = said_then p q (λ x before h e. refl)
    (λ x before h e. not_from_false (is_empty n (row x)) (word_there n k (row x) lt (λ z. some (word_of_nothing w (row x k) h z))))

-- counts of the words of a row
pub count_more : (row : (ℕ → ℕ) → ℕ → ℕ) {a b c : Seen} (k count w : ℕ) → SaidCount (λ x. counted k (row x)) a b count → SaidWord (λ x. row x k) b c w
    → SaidCount (λ x. counted (k + 1) (row x)) a c (count + count_ones w)
count_more row {a} {b} {c} k count w p q = rw add-one (said_then p q (λ x before h. omega (arith, before, ones_in (row x k) w h)) (λ x before h. omega (arith, before, ones_in w (row x k) h)))

pub over_early : (row : (ℕ → ℕ) → ℕ → ℕ) {a b : Seen} (most n k count : ℕ) → k ≤ n → most < count → SaidCount (λ x. counted k (row x)) a b count
    → SaidBool (λ x. nat_lt most (counted n (row x))) a b true
over_early row {a} {b} most n k count le over p = said_so p (λ x h e. refl) (λ x h e. lt-ltb most (counted n (row x)) (omega (arith, h, over, counted_more k n (row x) le)))

pub over_done : (row : (ℕ → ℕ) → ℕ → ℕ) {a b : Seen} (most n count : ℕ) → SaidCount (λ x. counted n (row x)) a b count → SaidBool (λ x. nat_lt most (counted n (row x))) a b (nat_lt most count)
over_done row {a} {b} most n count p = said_so p
    (λ x h e. lt-ltb most count (omega (arith, h, ltb-true most (counted n (row x)) e)))
    (λ x h e. lt-ltb most (counted n (row x)) (omega (arith, h, ltb-true most count e)))

-- the bits of two words, one after the other, and a word that a mask cuts
pub said_and : {f g : (ℕ → ℕ) → ℕ} {a b c : Seen} {v w : ℕ} → SaidWord f a b v → SaidWord g b c w → SaidWord (λ x. bit_and (f x) (g x)) a c (bit_and v w)
said_and {f} {g} {a} {b} {c} {v} {w} p q = said_then p q (λ x h i. and_grows (f x) (g x) v w h i) (λ x h i. and_grows v w (f x) (g x) h i)

-- a word that is known, and one that is the same whatever the words are
pub said_known : {f : (ℕ → ℕ) → ℕ} {w : ℕ} (s : Seen) → ((x : ℕ → ℕ) → f x ≡ w) → SaidWord f s s w
said_known {f} {w} s e = said_at_once s (λ x. subst (λ (v : ℕ). IsIn v w) (sym (e x)) (in_itself w)) (λ x. subst (λ (v : ℕ). IsIn w v) (sym (e x)) (in_itself w))

pub said_same : {f g : (ℕ → ℕ) → ℕ} {a b : Seen} {w : ℕ} → ((x : ℕ → ℕ) → f x ≡ g x) → SaidWord f a b w → SaidWord g a b w
said_same {f} {g} {a} {b} {w} e p = said_so p (λ x h. subst (λ (v : ℕ). IsIn v w) (e x) h) (λ x h. subst (λ (v : ℕ). IsIn w v) (e x) h)

-- tests
pub said_yes : {f h : (ℕ → ℕ) → Bool} {a b : Seen} (r : Bool) → r ≡ true → SaidBool h a b r → ((x : ℕ → ℕ) → h x ≡ true → f x ≡ true) → SaidBool f a b true
said_yes r e p up = said_so p (λ x h i. refl) (λ x h i. up x (h e))

pub said_no : {f h : (ℕ → ℕ) → Bool} {a b : Seen} (r : Bool) → r ≡ false → SaidBool h a b r → ((x : ℕ → ℕ) → f x ≡ true → h x ≡ true) → SaidBool f a b false
said_no r e p up = said_so p (λ x h i. sym e ∙ h (up x i)) (λ x h i. absurd cc)

pub said_both : {f h i : (ℕ → ℕ) → Bool} {a b c : Seen} {q : Bool} (r : Bool) → r ≡ true → SaidBool h a b r → SaidBool i b c q → ((x : ℕ → ℕ) → f x ≡ (h x && i x)) → SaidBool f a c q
said_both {f} {h} {i} {a} {b} {c} {q} r e p s is = said_then p s
    (λ x u v n. v ((and_parts (h x) (i x) (sym (is x) ∙ n)).1)) (λ x u v n. is x ∙ and_from (h x) (i x) (u e) (v n))

pub said_either : {f h i : (ℕ → ℕ) → Bool} {a b c : Seen} {q : Bool} (r : Bool) → r ≡ false → SaidBool h a b r → SaidBool i b c q → ((x : ℕ → ℕ) → f x ≡ (h x || i x)) → SaidBool f a c q
said_either {f} {h} {i} {a} {b} {c} {q} r e p s is = said_then p s
    (λ x u v n. go x u v (or_cases (h x) (i x) (sym (is x) ∙ n))) (λ x u v n. is x ∙ or_right (h x) (i x) (v n))
  where
    go : (x : ℕ → ℕ) → (h x ≡ true → r ≡ true) → (i x ≡ true → q ≡ true) → ((h x ≡ true) ⊎ (i x ≡ true)) → q ≡ true
    go x u v (inl n) = absurd (true≢false (sym (u n) ∙ e))
    go x u v (inr n) = v n

-- the types of a word
pub types_at : (f : ℕ → ℕ) (k : ℕ) → types_of f k ≡ types_of (λ _. f k) k
types_at f zero = refl
types_at f (suc k) = refl

types_rise : (u v k : ℕ) → IsIn u v → IsIn (types_of (λ _. u) k) (types_of (λ _. v) k)
types_rise u v zero p = and_grows u (2 ^ 64 - 4) v (2 ^ 64 - 4) p (in_itself (2 ^ 64 - 4))
types_rise u v (suc k) p = p

pub said_types : (row : (ℕ → ℕ) → ℕ → ℕ) {a b : Seen} {w : ℕ} (k result : ℕ) → result ≡ types_of (λ _. w) k → SaidWord (λ x. row x k) a b w → SaidWord (λ x. types_of (row x) k) a b result
said_types row {a} {b} {w} k result e p = said_so p
    (λ x h. subst₂ IsIn (sym (types_at (row x) k)) (sym e) (types_rise (row x k) w k h)) (λ x h. subst₂ IsIn (sym e) (sym (types_at (row x) k)) (types_rise w (row x k) k h))

-- one bit more of a word that is made bit by bit
pub word_next : (P : ℕ → Bool) (i w v : ℕ) (b : Bool) → w ≡ word_where P i → b ≡ P i → v ≡ (if b then 2 ^ i else 0) → bit_or v w ≡ word_where P (i + 1)
word_next P i w v b e p q = rw add-one (ap (λ (u : ℕ). bit_or u w) (q ∙ ap (λ (c : Bool). if c then 2 ^ i else 0) p) ∙ ap (bit_or (if P i then 2 ^ i else 0)) e)

-- loops over the types of a meaning
some_next : (c : ℕ) (Q : ℕ → Bool) → some_type (suc c) Q ≡ (some_type c Q || (nat_lt 0 c && Q c))
some_next zero Q = refl
some_next (suc c) Q = ap (λ (b : Bool). some_type (suc c) Q || (b && Q (suc c))) (sym (lt-ltb 0 (suc c) (omega arith)))

pub some_more : (Q : (ℕ → ℕ) → ℕ → Bool) {a b d : Seen} (c : ℕ) (r : Bool) → r ≡ false → SaidBool (λ x. some_type c (Q x)) a b false → SaidBool (λ x. nat_lt 0 c && Q x c) b d r
    → SaidBool (λ x. some_type (c + 1) (Q x)) a d false
some_more Q c r e p q = rw add-one (said_then p q (λ x h i n. go x h i (or_cases (some_type c (Q x)) (nat_lt 0 c && Q x c) (sym (some_next c (Q x)) ∙ n))) (λ x h i n. absurd cc))
  where
    go : (x : ℕ → ℕ) → (some_type c (Q x) ≡ true → false ≡ true) → ((nat_lt 0 c && Q x c) ≡ true → r ≡ true) → ((some_type c (Q x) ≡ true) ⊎ ((nat_lt 0 c && Q x c) ≡ true)) → false ≡ true
    go x h i (inl n) = h n
    go x h i (inr n) = sym e ∙ i n

pub some_there : (Q : (ℕ → ℕ) → ℕ → Bool) {a b d : Seen} (n c : ℕ) (r : Bool) → c < n → r ≡ true → SaidBool (λ x. some_type c (Q x)) a b false → SaidBool (λ x. nat_lt 0 c && Q x c) b d r
    → SaidBool (λ x. some_type n (Q x)) a d true
some_there Q n c r lt e p q = said_then p q (λ x h i m. refl) (λ x h i m.
    let parts : (nat_lt 0 c ≡ true) × (Q x c ≡ true) = and_parts (nat_lt 0 c) (Q x c) (i e) in some_from n c (Q x) (ltb-true 0 c parts.0) lt parts.1)

-- a word that is made bit by bit, of tests that are said
pub word_more : (P : (ℕ → ℕ) → ℕ → Bool) {a b c : Seen} (i w v : ℕ) (t : Bool) → v ≡ (if t then 2 ^ i else 0) → SaidWord (λ x. word_where (P x) i) a b w → SaidBool (λ x. P x i) b c t
    → SaidWord (λ x. word_where (P x) (i + 1)) a c (bit_or v w)
word_more P i w v t e p q = rw add-one (said_then p q
    (λ x h u. or_grows (if P x i then 2 ^ i else 0) (word_where (P x) i) v w (subst (λ (y : ℕ). IsIn (if P x i then 2 ^ i else 0) y) (sym e) (if_grows (P x i) t (2 ^ i) (2 ^ i) u (in_itself (2 ^ i)))) h)
    (λ x h u. or_grows v w (if P x i then 2 ^ i else 0) (word_where (P x) i) (subst (λ (y : ℕ). IsIn y (if P x i then 2 ^ i else 0)) (sym e) (if_grows t (P x i) (2 ^ i) (2 ^ i) u (in_itself (2 ^ i)))) h))

-- the OR of two words
pub said_or : {f g : (ℕ → ℕ) → ℕ} {a b c : Seen} {v w : ℕ} → SaidWord f a b v → SaidWord g b c w → SaidWord (λ x. bit_or (f x) (g x)) a c (bit_or v w)
said_or {f} {g} {a} {b} {c} {v} {w} p q = said_then p q (λ x h i. or_grows (f x) (g x) v w h i) (λ x h i. or_grows v w (f x) (g x) h i)
