-- A reader is exact for a grammar where what it reads is spelled so, and what is spelled so is read.
use Rattle.std.proofs.Common.{◌≡◌, ℕ, zero, suc, ◌+◌, ◌%◌, ◌^◌, ◌<◌, ◌≤◌, Bool, true, false, cond, ltb, List, [], ◌∷◌, ◌++◌, length, take, drop, Option, Some, None, Result, Ok, Err, Decides, refl, sym, ap, subst, ◌∙◌, append_assoc, arith, inl, inr}
use Rattle.std.specs.Int.{Width, w8, w16, w32, w64, byte_len, from_be_bytes, to_be_bytes}
use Rattle.std.proofs.lemmas.Bool.{cases_lt, ltb-false, le-ltb}
use Rattle.std.proofs.lemmas.List.{take_at, drop_at, take-append-drop, length-append, length-take, get_or-drop, get_or-take, get_or_past, append-nil}
use Rattle.std.proofs.lemmas.Nat.{be_bytes_2, be_bytes_4, be_bytes_8, from_be_bytes-to_be_bytes_2, from_be_bytes-to_be_bytes_4, from_be_bytes-to_be_bytes_8}
use Rattle.wf_bytes.specs.declared.fault.Why.{Why}
use Rattle.wf_bytes.specs.declared.fault.Why.TheVariants as why
use Rattle.wf_bytes.specs.Place.{Place, spot, after, number_at}
use Rattle.wf_base.specs.Bytes.{IsBytes}
use Rattle.wf_bytes.specs.Grammar.{Number, U1, U2, U4, U8, Run, Is, Then, Where, That, Given, Choice, Inside, Many, Counted, ManyOn, Times, CountedOn, Never}
use Rattle.wf_bytes.specs.Exactness.{Took}
use Rattle.wf_bytes.specs.Reading.{Fault, bad, ◌>>=◌, Reader, wanted, found, number, run, many, many_on, times, counted, counted_on}

pub record Exact {X : Type 0} (G : List ℕ → X → Type 0) (r : Reader X) : Type 0 where
  pub found : (p q : Place) (x : X) → IsBytes p.left → r p ≡ Ok (x, q) → Took G p q x
  pub again : (at : ℕ) (text rest : List ℕ) (x : X) → G text x → r (spot at (text ++ rest)) ≡ Ok (x, spot (at + length text) rest)

-- one reader, and then another
abbrev pub next : {A B : Type 0} → Reader A → (A → ℕ → Reader B) → Reader B
next r s p = r p >>= λ x. s x.0 p.at x.1

-- the value of a step that did not fail
pub bind_ok : {A B : Type 0} (r : Result A Fault) (f : A → Result B Fault) (y : B) → (r >>= f) ≡ Ok y → (x : A) × (r ≡ Ok x) × (f x ≡ Ok y)
bind_ok (Ok x) f y e = (x, refl, e)
bind_ok (Err d) f y e = absurd cc

abbrev done : {A : Type 0} → A → Result A Fault
done x = Ok x

pub ok_is : {A : Type 0} (x y : A) → done x ≡ done y → x ≡ y
ok_is x y e = cc

-- a test that did not fail
pub guard_ok : {A : Type 0} (b : Bool) (d : Fault) (x y : A) → cond b (Err d) (Ok x) ≡ Ok y → (b ≡ false) × (x ≡ y)
guard_ok true d x y e = absurd cc
guard_ok false d x y e = (refl, cc)

pub wanted_ok : (b : Bool) (at : ℕ) (fault : Why) (u : Unit {0}) → wanted b at fault ≡ Ok u → b ≡ true
wanted_ok true at fault u e = refl
wanted_ok false at fault u e = absurd cc

found_ok : {A : Type 0} (o : Option A) (at : ℕ) (fault : Why) (x : A) → found o at fault ≡ Ok x → o ≡ Some x
found_ok (Some y) at fault x e = ap Some (ok_is y x e)
found_ok None at fault x e = absurd cc

IsBytes-drop : (n : ℕ) (bytes : List ℕ) → IsBytes bytes → IsBytes (drop n bytes)
IsBytes-drop n bytes h = record { each = λ i. rw get_or-drop (h.each (n + i)) }

IsBytes-take : (n : ℕ) (bytes : List ℕ) → IsBytes bytes → IsBytes (take n bytes)
IsBytes-take n bytes h = record {
  each = λ i.
      elim (cases_lt i n) [
        | inl lt ↦ rw (get_or-take n bytes i 0 lt) (h.each i)
        | inr le ↦ rw (get_or_past (take n bytes) i 0 (omega (arith, length-take n bytes))) (omega arith)
      ];
}

-- the bytes behind what was taken
pub fits_behind : {X : Type 0} {G : List ℕ → X → Type 0} {p q : Place} {x : X} → Took G p q x → IsBytes p.left → IsBytes q.left
fits_behind {p = p} {q = q} t fits =
    let rest : drop (length t.text) p.left ≡ q.left = ap (drop (length t.text)) t.left ∙ drop_at t.text q.left (length t.text) refl in
    subst IsBytes rest (IsBytes-drop (length t.text) p.left fits)

-- ---- numbers and runs

-- what numbers of a width are in bytes
pub record IsWide (w : Width) : Type 0 where
  pub len : (n : ℕ) → length (to_be_bytes w n) ≡ byte_len w
  pub back : (bytes : List ℕ) → length bytes ≡ byte_len w → IsBytes bytes → to_be_bytes w (from_be_bytes w bytes) ≡ bytes
  pub again : (n : ℕ) → n < 256 ^ byte_len w → from_be_bytes w (to_be_bytes w n) ≡ n
  pub below : (bytes : List ℕ) → IsBytes bytes → from_be_bytes w bytes < 256 ^ byte_len w

one_byte : (bytes : List ℕ) → length bytes ≡ 1 → IsBytes bytes → to_be_bytes w8 (from_be_bytes w8 bytes) ≡ bytes
one_byte [] e fits = absurd cc
one_byte (b ∷ []) e fits =
    let same : b % 256 ≡ b = omega (arith, fits.each 0) in
    ap (λ n. n ∷ []) same
one_byte (b ∷ c ∷ bytes) e fits = absurd (omega (arith, e))

pub wide8 : IsWide w8
wide8 = record {
  len = λ n. refl;
  back = one_byte;
  again = λ n lt. omega arith;
  below = λ bytes fits. omega (arith, fits.each 0);
}

pub wide16 : IsWide w16
wide16 = record {
  len = λ n. refl;
  back = λ bytes len fits. be_bytes_2 bytes _ len fits.each refl;
  again = λ n lt. from_be_bytes-to_be_bytes_2 n lt;
  below = λ bytes fits. omega (arith, fits.each 0, fits.each 1);
}

pub wide32 : IsWide w32
wide32 = record {
  len = λ n. refl;
  back = λ bytes len fits. be_bytes_4 bytes _ len fits.each refl;
  again = λ n lt. from_be_bytes-to_be_bytes_4 n lt;
  below = λ bytes fits. omega (arith, fits.each 0, fits.each 1, fits.each 2, fits.each 3);
}

pub wide64 : IsWide w64
wide64 = record {
  len = λ n. refl;
  back = λ bytes len fits. be_bytes_8 bytes _ len fits.each refl;
  again = λ n lt. from_be_bytes-to_be_bytes_8 n lt;
  below = λ bytes fits. omega (arith, fits.each 0, fits.each 1, fits.each 2, fits.each 3, fits.each 4, fits.each 5, fits.each 6, fits.each 7);
}

number_found : (w : Width) → IsWide w → (p q : Place) (n : ℕ) → IsBytes p.left → number w p ≡ Ok (n, q) → Took (Number w) p q n
unfolding number
number_found w wide p q n fits e =
    let k = byte_len w in
    let g = guard_ok (ltb (length p.left) k) (bad p.at why.Cut) (number_at w p, after p k) (n, q) e in
    let long : k ≤ length p.left = ltb-false _ _ g.0 in
    let front = take k p.left in
    let len : length front ≡ k = omega (arith, length-take k p.left) in
    let took : Took (Number w) p (after p k) (number_at w p) = record {
      text = front;
      left = sym (take-append-drop k p.left);
      at = ap (λ (m : ℕ). p.at + m) (sym len);
      spelled = record { spelled = sym (wide.back front len (IsBytes-take k p.left fits)); small = wide.below front (IsBytes-take k p.left fits) };
    } in
    subst (λ (x : ℕ × Place). Took (Number w) p x.1 x.0) g.1 took

number_again : (w : Width) → IsWide w → (at : ℕ) (text rest : List ℕ) (n : ℕ) → Number w text n → number w (spot at (text ++ rest)) ≡ Ok (n, spot (at + length text) rest)
unfolding number
number_again w wide at text rest n g =
    let k = byte_len w in
    let len : length text ≡ k = ap length g.spelled ∙ wide.len n in
    let long : ltb (length (text ++ rest)) k ≡ false = le-ltb _ _ (omega (arith, length-append text rest)) in
    let value : from_be_bytes w (take k (text ++ rest)) ≡ n = ap (from_be_bytes w) (take_at text rest k len ∙ g.spelled) ∙ wide.again n g.small in
    rw (long, value, drop_at text rest k len, len) refl

exact_number : (w : Width) → IsWide w → Exact (Number w) (number w)
exact_number w wide = record { found = number_found w wide; again = number_again w wide }

pub exact_u1 : Exact U1 (number w8)
exact_u1 = exact_number w8 wide8

pub exact_u2 : Exact U2 (number w16)
exact_u2 = exact_number w16 wide16

pub exact_u4 : Exact U4 (number w32)
exact_u4 = exact_number w32 wide32

pub exact_u8 : Exact U8 (number w64)
exact_u8 = exact_number w64 wide64

run_found : (n : ℕ) (p q : Place) (x : List ℕ) → IsBytes p.left → run n p ≡ Ok (x, q) → Took (Run n) p q x
unfolding run
run_found n p q x fits e =
    let g = guard_ok (ltb (length p.left) n) (bad p.at why.Cut) (take n p.left, after p n) (x, q) e in
    let long : n ≤ length p.left = ltb-false _ _ g.0 in
    let len : length (take n p.left) ≡ n = omega (arith, length-take n p.left) in
    let took : Took (Run n) p (after p n) (take n p.left) = record {
      text = take n p.left;
      left = sym (take-append-drop n p.left);
      at = ap (λ (m : ℕ). p.at + m) (sym len);
      spelled = record { same = refl; count = len };
    } in
    subst (λ (y : List ℕ × Place). Took (Run n) p y.1 y.0) g.1 took

run_again : (n : ℕ) (at : ℕ) (text rest x : List ℕ) → Run n text x → run n (spot at (text ++ rest)) ≡ Ok (x, spot (at + length text) rest)
unfolding run
run_again n at text rest x g =
    let long : ltb (length (text ++ rest)) n ≡ false = le-ltb _ _ (omega (arith, g.count, length-append text rest)) in
    rw (long, take_at text rest n g.count, drop_at text rest n g.count, g.same, g.count) refl

pub exact_run : (n : ℕ) → Exact (Run n) (run n)
exact_run n = record { found = run_found n; again = run_again n }

-- ---- pieces

pub exact_is : {X : Type 0} (x : X) → Exact (Is x) (λ p. Ok (x, p))
exact_is x = record {
  found = λ p q y fits e.
      let both = ok_is (x, p) (y, q) e in
      subst (λ (z : _ × Place). Took (Is x) p z.1 z.0) both (record { text = []; left = refl; at = omega arith; spelled = record { nothing = refl; same = refl } });
  again = λ at text rest y g. rw (g.nothing, g.same) (ap (λ (n : ℕ). Ok (x, spot n rest)) (omega arith));
}

-- a piece, and then another
pub exact_then : {A B : Type 0} {G : List ℕ → A → Type 0} {H : A → List ℕ → B → Type 0} {r : Reader A} {s : A → ℕ → Reader B} → Exact G r → ((x : A) (o : ℕ) → Exact (H x) (s x o)) → Exact (Then G H) (next r s)
exact_then {G = G} {H = H} {r = r} {s = s} first second = record {
  found = λ p q y fits e.
      let one = bind_ok (r p) (λ x. s x.0 p.at x.1) (y, q) e in
      let t = first.found p one.0.1 one.0.0 fits one.1 in
      let u = (second one.0.0 p.at).found one.0.1 q y (fits_behind t fits) one.2 in
      record {
        text = t.text ++ u.text;
        left = t.left ∙ ap (λ (bytes : List ℕ). t.text ++ bytes) u.left ∙ sym (append_assoc t.text u.text q.left);
        at = omega (arith, t.at, u.at, length-append t.text u.text);
        spelled = record { first = t.text; second = u.text; value = one.0.0; parts = refl; front = t.spelled; back = u.spelled };
      };
  again = λ at text rest y g.
      let regrouped : text ++ rest ≡ g.first ++ (g.second ++ rest) = ap (λ (t : List ℕ). t ++ rest) g.parts ∙ append_assoc g.first g.second rest in
      let one = first.again at g.first (g.second ++ rest) g.value g.front in
      let two = (second g.value at).again (at + length g.first) g.second rest y g.back in
      let long : (at + length g.first) + length g.second ≡ at + length text = omega (arith, ap length g.parts, length-append g.first g.second) in
      ap (λ (t : List ℕ). next r s (spot at t)) regrouped ∙ ap (λ z. z >>= λ x. s x.0 at x.1) one ∙ two ∙ ap (λ (n : ℕ). Ok (y, spot n rest)) long;
}

-- a piece under a test
pub exact_where : {B : Type 0} {G : List ℕ → B → Type 0} {s : Reader B} (test : Bool) (at : ℕ) (fault : Why) → Exact G s → Exact (Where test G) (λ p. wanted test at fault >>= λ u. s p)
exact_where {G = G} {s = s} test at fault rest = record {
  found = λ p q y fits e.
      let one = bind_ok (wanted test at fault) (λ u. s p) (y, q) e in
      let t = rest.found p q y fits one.2 in
      record { text = t.text; left = t.left; at = t.at; spelled = record { holds = wanted_ok test at fault one.0 one.1; rest = t.spelled } };
  again = λ place text more y g. ap (λ (b : Bool). wanted b at fault >>= λ u. s (spot place (text ++ more))) g.holds ∙ rest.again place text more y g.rest;
}

-- a piece where a fact holds, which the test decides
pub exact_that : {P : Type 0} {B : Type 0} {G : List ℕ → B → Type 0} {s : Reader B} (test : Bool) (at : ℕ) (fault : Why) → Decides test P → Exact G s → Exact (That P G) (λ p. wanted test at fault >>= λ u. s p)
exact_that {P = P} {G = G} {s = s} test at fault decides rest = record {
  found = λ p q y fits e.
      let one = bind_ok (wanted test at fault) (λ u. s p) (y, q) e in
      let t = rest.found p q y fits one.2 in
      record { text = t.text; left = t.left; at = t.at; spelled = record { holds = decides.0 (wanted_ok test at fault one.0 one.1); rest = t.spelled } };
  again = λ place text more y g. ap (λ (b : Bool). wanted b at fault >>= λ u. s (spot place (text ++ more))) (decides.1 g.holds) ∙ rest.again place text more y g.rest;
}

-- a piece that depends on a value that has to be there
pub exact_given : {A B : Type 0} {H : A → List ℕ → B → Type 0} {s : A → Reader B} (o : Option A) (at : ℕ) (fault : Why) → ((x : A) → Exact (H x) (s x)) → Exact (Given o H) (λ p. found o at fault >>= λ x. s x p)
exact_given {H = H} {s = s} o at fault rest = record {
  found = λ p q y fits e.
      let one = bind_ok (found o at fault) (λ x. s x p) (y, q) e in
      let t = (rest one.0).found p q y fits one.2 in
      record { text = t.text; left = t.left; at = t.at; spelled = record { value = one.0; found = found_ok o at fault one.0 one.1; rest = t.spelled } };
  again = λ place text more y g. ap (λ z. found z at fault >>= λ x. s x (spot place (text ++ more))) g.found ∙ (rest g.value).again place text more y g.rest;
}

pub exact_choice : {B : Type 0} {G H : List ℕ → B → Type 0} {r s : Reader B} (b : Bool) → Exact G r → Exact H s → Exact (Choice b G H) (λ p. cond b (r p) (s p))
exact_choice true one two = one
exact_choice false one two = two

-- nothing is read where nothing is spelled
pub exact_never : {B : Type 0} (fault : Fault) → Exact {X = B} Never (λ p. Err fault)
exact_never fault = record { found = λ p q y fits e. absurd cc; again = λ at text rest y g. absurd g }

pub exact_many : {X : Type 0} {G : List ℕ → X → Type 0} {r : Reader X} → Exact G r → (n : ℕ) → Exact (Many G n) (many r n)
unfolding many
exact_many one zero = exact_is []
exact_many one (suc n) = exact_then one (λ x _. exact_then (exact_many one n) (λ xs _. exact_is (x ∷ xs)))

pub exact_counted : {X : Type 0} {G : List ℕ → X → Type 0} {r : Reader X} → Exact G r → Exact (Counted G) (counted r)
unfolding counted
exact_counted one = exact_then exact_u2 (λ n _. exact_many one n)

pub exact_many_on : {X K : Type 0} {G : K → List ℕ → X × K → Type 0} {r : K → Reader (X × K)} → ((k : K) → Exact (G k) (r k)) → (n : ℕ) (k : K) → Exact (ManyOn G n k) (many_on r n k)
unfolding many_on
exact_many_on one zero k = exact_is ([], k)
exact_many_on one (suc n) k = exact_then (one k) (λ x _. exact_then (exact_many_on one n x.1) (λ xs _. exact_is (x.0 ∷ xs.0, xs.1)))

pub exact_times : {K : Type 0} {G : K → List ℕ → K → Type 0} {r : K → Reader K} → ((k : K) → Exact (G k) (r k)) → (n : ℕ) (k : K) → Exact (Times G n k) (times r n k)
unfolding times
exact_times one zero k = exact_is k
exact_times one (suc n) k = exact_then (one k) (λ l _. exact_times one n l)

pub exact_counted_on : {K : Type 0} {G : K → List ℕ → K → Type 0} {r : K → Reader K} → ((k : K) → Exact (G k) (r k)) → (k : K) → Exact (CountedOn G k) (counted_on r k)
unfolding counted_on
exact_counted_on one k = exact_then exact_u2 (λ n _. exact_times one n k)

IsBytes-front : (front rest : List ℕ) → IsBytes (front ++ rest) → IsBytes front
IsBytes-front front rest fits = let h = IsBytes-take (length front) (front ++ rest) fits in rw (take_at front rest (length front) refl) at h

-- bytes of which the inside is read, all of it
pub exact_inside : {X : Type 0} {G : List ℕ → X → Type 0} {f : List ℕ → ℕ → Result X Fault} (n : ℕ)
    → ((inside : List ℕ) (o : ℕ) (x : X) → IsBytes inside → f inside o ≡ Ok x → G inside x)
    → ((inside : List ℕ) (o : ℕ) (x : X) → G inside x → f inside o ≡ Ok x)
    → Exact (Then (Run n) (Inside G)) (next (run n) (λ inside o p. f inside o >>= λ x. Ok (x, p)))
exact_inside {X = X} {G = G} {f = f} n spelled again = record {
  found = λ p q y fits e.
      let one = bind_ok (run n p) (λ x. f x.0 p.at >>= λ z. Ok (z, x.1)) (y, q) e in
      let two = bind_ok (f one.0.0 p.at) (λ z. Ok (z, one.0.1)) (y, q) one.2 in
      let t = run_found n p one.0.1 one.0.0 fits one.1 in
      let inside : IsBytes one.0.0 = rw t.spelled.same (IsBytes-front t.text one.0.1.left (rw t.left at fits)) in
      let both = ok_is (two.0, one.0.1) (y, q) two.2 in
      subst (λ (z : X × Place). Took (Then (Run n) (Inside G)) p z.1 z.0) both (record {
        text = t.text;
        left = t.left;
        at = t.at;
        spelled = record { first = t.text; second = []; value = one.0.0; parts = sym (append-nil t.text); front = t.spelled; back = record { nothing = refl; spelled = spelled one.0.0 p.at two.0 inside two.1 } };
      });
  again = λ at text rest y g.
      let regrouped : text ≡ g.first = g.parts ∙ ap (λ (t : List ℕ). g.first ++ t) g.back.nothing ∙ append-nil g.first in
      let one = run_again n at g.first rest g.value g.front in
      let two = again g.value at y g.back.spelled in
      ap (λ (t : List ℕ). next (run n) (λ inside o p. f inside o >>= λ x. Ok (x, p)) (spot at (t ++ rest))) regrouped
      ∙ ap (λ z. z >>= λ x. f x.0 at >>= λ w. Ok (w, x.1)) one ∙ ap (λ z. z >>= λ w. Ok (w, spot (at + length g.first) rest)) two
      ∙ ap (λ (t : List ℕ). Ok (y, spot (at + length t) rest)) (sym regrouped);
}
