-- A reader is steady where more bytes behind change neither what it reads nor a fault that isn't a cut, and
-- where its faults lie within the bytes.
use Rattle.std.proofs.Common.{◌≡◌, ℕ, zero, suc, ◌+◌, ◌<◌, ◌≤◌, Bool, true, false, cond, ltb, List, [], ◌∷◌, ◌++◌, length, take, drop, Option, Some, None, Result, Ok, Err, refl, sym, ap, subst, ◌∙◌, arith, inl, inr}
use Rattle.std.specs.Int.{Width, w16, byte_len, from_be_bytes}
use Rattle.std.proofs.lemmas.Bool.{cases_lt, lt-ltb, le-ltb, ltb-false}
use Rattle.std.proofs.lemmas.List.{take-append-le, drop-append-le, length-append, length-take, length-drop}
use Rattle.wf_bytes.specs.declared.fault.Why.{Why}
use Rattle.wf_bytes.specs.declared.fault.Why.TheVariants as why
use Rattle.wf_bytes.specs.Place.{Place, spot, after, number_at}
use Rattle.wf_bytes.specs.Reading.{Fault, bad, is_cut, ◌>>=◌, Reader, wanted, found, number, run, many, many_on, times, counted, counted_on}
use Rattle.wf_bytes.proofs.Exact.{next, guard_ok}

-- what is given with more bytes behind
abbrev pub Stays : {X : Type 0} → List ℕ → Result (X × Place) Fault → Result (X × Place) Fault → Type 0
Stays more (Ok x) now = now ≡ Ok (x.0, spot x.1.at (x.1.left ++ more))
Stays more (Err fault) now = is_cut fault.why ≡ false → now ≡ Err fault

-- what is read and what is left are the bytes, and a fault lies within them
abbrev pub Lies : {X : Type 0} → ℕ → List ℕ → Result (X × Place) Fault → Type 0
Lies at left (Ok x) = (at ≤ x.1.at) × (x.1.at + length x.1.left ≡ at + length left)
Lies at left (Err fault) = fault.offset ≤ at + length left

pub record Steady {X : Type 0} (at : ℕ) (r : Reader X) : Type 0 where
  pub stays : (left more : List ℕ) → Stays more (r (spot at left)) (r (spot at (left ++ more)))
  pub lies : (left : List ℕ) → Lies at left (r (spot at left))

-- ---- one step, and then another

stays_on : {A B : Type 0} (more : List ℕ) (a b : Result (A × Place) Fault) (f : A × Place → Result (B × Place) Fault) → Stays more a b
    → ((x : A) (q : Place) → a ≡ Ok (x, q) → Stays more (f (x, q)) (f (x, spot q.at (q.left ++ more)))) → Stays more (a >>= f) (b >>= f)
stays_on more (Ok x) b f same rest = rw same (rest x.0 x.1 refl)
stays_on more (Err fault) b f same rest = λ cut. ap (λ z. z >>= f) (same cut)

lies_from : {A : Type 0} (at o : ℕ) (left rest : List ℕ) (r : Result (A × Place) Fault) → at ≤ o → o + length rest ≡ at + length left → Lies o rest r → Lies at left r
lies_from at o left rest (Ok x) low all l = (omega (arith, l.0), l.1 ∙ all)
lies_from at o left rest (Err fault) low all l = omega (arith, l)

lies_on : {A B : Type 0} (at : ℕ) (left : List ℕ) (a : Result (A × Place) Fault) (f : A × Place → Result (B × Place) Fault) → Lies at left a
    → ((x : A) (q : Place) → a ≡ Ok (x, q) → Lies q.at q.left (f (x, q))) → Lies at left (a >>= f)
lies_on at left (Ok x) f l rest = lies_from at x.1.at left x.1.left (f x) l.0 l.1 (rest x.0 x.1 refl)
lies_on at left (Err fault) f l rest = l

-- the place behind what was read
behind : {A : Type 0} (at : ℕ) (left : List ℕ) (r : Result (A × Place) Fault) (x : A) (q : Place) → Lies at left r → r ≡ Ok (x, q) → at ≤ q.at
behind at left r x q l e = (subst (λ (z : Result (_ × Place) Fault). Lies at left z) e l).0

-- one reader, and then another that may know something of the place where it begins
pub steady_next : {A B : Type 0} {r : Reader A} {s : A → ℕ → Reader B} (at : ℕ) (Known : A → ℕ → Type 0) → Steady at r → ((left : List ℕ) (x : A) (q : Place) → r (spot at left) ≡ Ok (x, q) → Known x q.at)
    → ((x : A) (place o : ℕ) → place ≡ at → Known x o → Steady o (s x place)) → Steady at (next r s)
steady_next {r = r} {s = s} at Known first known second = record {
  stays = λ left more.
      stays_on more (r (spot at left)) (r (spot at (left ++ more))) (λ x. s x.0 at x.1) (first.stays left more) (λ x q e. (second x at q.at refl (known left x q e)).stays q.left more);
  lies = λ left. lies_on at left (r (spot at left)) (λ x. s x.0 at x.1) (first.lies left) (λ x q e. (second x at q.at refl (known left x q e)).lies q.left);
}

pub steady_then : {A B : Type 0} {at : ℕ} {r : Reader A} {s : A → ℕ → Reader B} → Steady at r → ((x : A) (place o : ℕ) → place ≡ at → at ≤ o → Steady o (s x place)) → Steady at (next r s)
steady_then {at = at} {r = r} first second =
    steady_next at (λ x o. at ≤ o) first (λ left x q e. behind at left (r (spot at left)) x q (first.lies left) e) second

-- ---- numbers and runs

number_short : (w : Width) (at : ℕ) (left : List ℕ) → length left < byte_len w → number w (spot at left) ≡ Err (bad at why.Cut)
unfolding number
number_short w at left lt = rw (lt-ltb _ _ lt) refl

number_long : (w : Width) (at : ℕ) (left : List ℕ) → byte_len w ≤ length left → number w (spot at left) ≡ Ok (from_be_bytes w (take (byte_len w) left), spot (at + byte_len w) (drop (byte_len w) left))
unfolding number
number_long w at left le = rw (le-ltb _ _ le) refl

run_short : (n at : ℕ) (left : List ℕ) → length left < n → run n (spot at left) ≡ Err (bad at why.Cut)
unfolding run
run_short n at left lt = rw (lt-ltb _ _ lt) refl

run_long : (n at : ℕ) (left : List ℕ) → n ≤ length left → run n (spot at left) ≡ Ok (take n left, spot (at + n) (drop n left))
unfolding run
run_long n at left le = rw (le-ltb _ _ le) refl

-- a reader of so many bytes, with a value that only they give
steady_bytes : {X : Type 0} (n at : ℕ) (value : List ℕ → X) (r : Reader X) → ((left : List ℕ) → length left < n → r (spot at left) ≡ Err (bad at why.Cut))
    → ((left : List ℕ) → n ≤ length left → r (spot at left) ≡ Ok (value (take n left), spot (at + n) (drop n left))) → Steady at r
steady_bytes n at value r short long = record {
  stays = λ left more.
      elim (cases_lt (length left) n) [
        | inl lt ↦ rw (short left lt) (λ cut. absurd cc)
        | inr le ↦
            let more_long : n ≤ length (left ++ more) = omega (arith, length-append left more) in
            rw (long left le, long (left ++ more) more_long, take-append-le n left more le, drop-append-le n left more le) refl
      ];
  lies = λ left.
      elim (cases_lt (length left) n) [
        | inl lt ↦ rw (short left lt) (omega arith)
        | inr le ↦ rw (long left le) (omega arith, omega (arith, length-drop n left))
      ];
}

pub steady_number : (w : Width) (at : ℕ) → Steady at (number w)
steady_number w at = steady_bytes (byte_len w) at (from_be_bytes w) (number w) (number_short w at) (number_long w at)

pub steady_run : (n at : ℕ) → Steady at (run n)
steady_run n at = steady_bytes n at (λ bytes. bytes) (run n) (run_short n at) (run_long n at)

-- how far a number and a run go
pub number_goes : (w : Width) (p q : Place) (n : ℕ) → number w p ≡ Ok (n, q) → q.at ≡ p.at + byte_len w
unfolding number
number_goes w p q n e =
    let g = guard_ok (ltb (length p.left) (byte_len w)) (bad p.at why.Cut) (number_at w p, after p (byte_len w)) (n, q) e in
    sym (ap (λ (z : ℕ × Place). z.1.at) g.1)

pub run_goes : (n : ℕ) (p q : Place) (x : List ℕ) → run n p ≡ Ok (x, q) → q.at ≡ p.at + length x
unfolding run
run_goes n p q x e =
    let g = guard_ok (ltb (length p.left) n) (bad p.at why.Cut) (take n p.left, after p n) (x, q) e in
    let long : n ≤ length p.left = ltb-false _ _ g.0 in
    let len : length x ≡ n = ap (λ (z : List ℕ × Place). length z.0) (sym g.1) ∙ omega (arith, length-take n p.left) in
    sym (ap (λ (z : List ℕ × Place). z.1.at) g.1) ∙ ap (λ (m : ℕ). p.at + m) (sym len)

pub steady_run_then : {B : Type 0} {s : List ℕ → ℕ → Reader B} (n at : ℕ) → ((x : List ℕ) (place o : ℕ) → place ≡ at → o ≡ at + length x → Steady o (s x place)) → Steady at (next (run n) s)
steady_run_then n at rest = steady_next at (λ x o. o ≡ at + length x) (steady_run n at) (λ left x q e. run_goes n (spot at left) q x e) rest

-- ---- pieces

pub steady_is : {X : Type 0} (x : X) (at : ℕ) → Steady at (λ p. Ok (x, p))
steady_is x at = record { stays = λ left more. refl; lies = λ left. (omega arith, refl) }

pub steady_where : {B : Type 0} {s : Reader B} {at : ℕ} (test : Bool) (place : ℕ) (fault : Why) → place ≤ at → Steady at s → Steady at (λ p. wanted test place fault >>= λ u. s p)
steady_where true place fault low rest = rest
steady_where false place fault low rest = record { stays = λ left more cut. refl; lies = λ left. omega (arith, low) }

pub steady_given : {A B : Type 0} {s : A → Reader B} {at : ℕ} (o : Option A) (place : ℕ) (fault : Why) → place ≤ at → ((x : A) → Steady at (s x)) → Steady at (λ p. found o place fault >>= λ x. s x p)
steady_given (Some x) place fault low rest = rest x
steady_given None place fault low rest = record { stays = λ left more cut. refl; lies = λ left. omega (arith, low) }

pub steady_choice : {B : Type 0} {r s : Reader B} {at : ℕ} (b : Bool) → Steady at r → Steady at s → Steady at (λ p. cond b (r p) (s p))
steady_choice true one two = one
steady_choice false one two = two

pub steady_never : {B : Type 0} {at : ℕ} (place : ℕ) (fault : Why) → place ≤ at → Steady {X = B} at (λ p. Err (bad place fault))
steady_never place fault low = record { stays = λ left more cut. refl; lies = λ left. omega (arith, low) }

-- a value that was read before, or a fault that lies before
pub steady_value : {X : Type 0} {at : ℕ} (v : Result X Fault) → ((fault : Fault) → v ≡ Err fault → fault.offset ≤ at) → Steady at (λ p. v >>= λ x. Ok (x, p))
steady_value {at = at} (Ok x) low = steady_is x at
steady_value {at = at} (Err fault) low = record { stays = λ left more cut. refl; lies = λ left. omega (arith, low fault refl) }

pub steady_many : {X : Type 0} {r : Reader X} → ((at : ℕ) → Steady at r) → (n at : ℕ) → Steady at (many r n)
unfolding many
steady_many one zero at = steady_is [] at
steady_many one (suc n) at = steady_then (one at) (λ x _ o _ _. steady_then (steady_many one n o) (λ xs _ end _ _. steady_is (x ∷ xs) end))

pub steady_counted : {X : Type 0} {r : Reader X} → ((at : ℕ) → Steady at r) → (at : ℕ) → Steady at (counted r)
unfolding counted
steady_counted one at = steady_then (steady_number w16 at) (λ n _ o _ _. steady_many one n o)

pub steady_many_on : {X K : Type 0} {r : K → Reader (X × K)} → ((k : K) (at : ℕ) → Steady at (r k)) → (n : ℕ) (k : K) (at : ℕ) → Steady at (many_on r n k)
unfolding many_on
steady_many_on one zero k at = steady_is ([], k) at
steady_many_on one (suc n) k at = steady_then (one k at) (λ x _ o _ _. steady_then (steady_many_on one n x.1 o) (λ xs _ end _ _. steady_is (x.0 ∷ xs.0, xs.1) end))

pub steady_times : {K : Type 0} {r : K → Reader K} → ((k : K) (at : ℕ) → Steady at (r k)) → (n : ℕ) (k : K) (at : ℕ) → Steady at (times r n k)
unfolding times
steady_times one zero k at = steady_is k at
steady_times one (suc n) k at = steady_then (one k at) (λ l _ o _ _. steady_times one n l o)

pub steady_counted_on : {K : Type 0} {r : K → Reader K} → ((k : K) (at : ℕ) → Steady at (r k)) → (k : K) (at : ℕ) → Steady at (counted_on r k)
unfolding counted_on
steady_counted_on one k at = steady_then (steady_number w16 at) (λ n _ o _ _. steady_times one n k o)
