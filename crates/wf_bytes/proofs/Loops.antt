-- Reading items one after the other, as a loop does: what is read so far and what is still to be read.
use Rattle.std.proofs.Common.{◌≡◌, ℕ, suc, ◌-◌, ◌+◌, ◌≤◌, ◌<◌, List, [], ◌∷◌, ◌++◌, Result, Ok, Err, refl, sym, ap, ◌∙◌, append_assoc, arith}
use Rattle.std.proofs.lemmas.List.{append-nil}
use Rattle.wf_bytes.specs.Place.{Place}
use Rattle.wf_bytes.specs.Reading.{Fault, Reader, ◌>>=◌, many, many_on, times}

-- what was read before, and what is still read
abbrev pub with_front : {X S : Type 0} → List X → Result (List X × S) Fault → Result (List X × S) Fault
with_front front read = read >>= λ x. Ok (front ++ x.0, x.1)

regroup : {X S : Type 0} (front : List X) (x : X) (read : Result (List X × S) Fault) → with_front front (read >>= λ xs. Ok (x ∷ xs.0, xs.1)) ≡ with_front (front ++ x ∷ []) read
regroup {X = X} front x (Ok xs) = ap (λ (ys : List X). Ok (ys, xs.1)) (simp append_assoc)
regroup front x (Err e) = refl

pub goes_on : {X : Type 0} (r : Reader X) (front : List X) (count i : ℕ) (p : Place) (x : X) (q : Place) (total : Result (List X × Place) Fault) → i < count → r p ≡ Ok (x, q)
    → with_front front (many r (count - i) p) ≡ total → with_front (front ++ x ∷ []) (many r (count - (i + 1)) q) ≡ total
unfolding many
goes_on r front count i p x q total lt h so_far =
    let k : count - i ≡ suc (count - (i + 1)) = omega arith in
    let one : with_front front (many r (count - i) p) ≡ with_front (front ++ x ∷ []) (many r (count - (i + 1)) q) = rw (k, h) (regroup front x (many r (count - (i + 1)) q)) in
    sym one ∙ so_far

pub is_done : {X : Type 0} (r : Reader X) (front : List X) (count i : ℕ) (p : Place) (total : Result (List X × Place) Fault) → count ≤ i → with_front front (many r (count - i) p) ≡ total → total ≡ Ok (front, p)
unfolding many
is_done {X = X} r front count i p total le so_far =
    let k : count - i ≡ 0 = omega arith in
    let one : with_front front (many r (count - i) p) ≡ Ok (front, p) = rw k (ap (λ (xs : List X). Ok (xs, p)) (append-nil front)) in
    sym so_far ∙ one

-- ---- the same where each item knows what those before it left

abbrev pub with_front_on : {X K S : Type 0} → List X → Result ((List X × K) × S) Fault → Result ((List X × K) × S) Fault
with_front_on front read = read >>= λ x. Ok ((front ++ x.0.0, x.0.1), x.1)

regroup_on : {X K S : Type 0} (front : List X) (x : X) (read : Result ((List X × K) × S) Fault) → with_front_on front (read >>= λ xs. Ok ((x ∷ xs.0.0, xs.0.1), xs.1)) ≡ with_front_on (front ++ x ∷ []) read
regroup_on {X = X} front x (Ok xs) = ap (λ (ys : List X). Ok ((ys, xs.0.1), xs.1)) (simp append_assoc)
regroup_on front x (Err e) = refl

pub goes_on_on : {X K : Type 0} (r : K → Reader (X × K)) (front : List X) (count i : ℕ) (k : K) (p : Place) (x : X) (l : K) (q : Place) (total : Result ((List X × K) × Place) Fault) → i < count → r k p ≡ Ok ((x, l), q)
    → with_front_on front (many_on r (count - i) k p) ≡ total → with_front_on (front ++ x ∷ []) (many_on r (count - (i + 1)) l q) ≡ total
unfolding many_on
goes_on_on r front count i k p x l q total lt h so_far =
    let n : count - i ≡ suc (count - (i + 1)) = omega arith in
    let one : with_front_on front (many_on r (count - i) k p) ≡ with_front_on (front ++ x ∷ []) (many_on r (count - (i + 1)) l q) = rw (n, h) (regroup_on front x (many_on r (count - (i + 1)) l q)) in
    sym one ∙ so_far

pub is_done_on : {X K : Type 0} (r : K → Reader (X × K)) (front : List X) (count i : ℕ) (k : K) (p : Place) (total : Result ((List X × K) × Place) Fault) → count ≤ i → with_front_on front (many_on r (count - i) k p) ≡ total → total ≡ Ok ((front, k), p)
unfolding many_on
is_done_on {X = X} r front count i k p total le so_far =
    let n : count - i ≡ 0 = omega arith in
    let one : with_front_on front (many_on r (count - i) k p) ≡ Ok ((front, k), p) = rw n (ap (λ (xs : List X). Ok ((xs, k), p)) (append-nil front)) in
    sym so_far ∙ one

-- ---- the same of steps that only change what they know

pub goes_on_times : {K : Type 0} (r : K → Reader K) (count i : ℕ) (k : K) (p : Place) (l : K) (q : Place) (total : Result (K × Place) Fault) → i < count → r k p ≡ Ok (l, q)
    → times r (count - i) k p ≡ total → times r (count - (i + 1)) l q ≡ total
unfolding times
goes_on_times r count i k p l q total lt h so_far =
    let n : count - i ≡ suc (count - (i + 1)) = omega arith in
    let one : times r (count - i) k p ≡ times r (count - (i + 1)) l q = rw (n, h) refl in
    sym one ∙ so_far

pub is_done_times : {K : Type 0} (r : K → Reader K) (count i : ℕ) (k : K) (p : Place) (total : Result (K × Place) Fault) → count ≤ i → times r (count - i) k p ≡ total → total ≡ Ok (k, p)
unfolding times
is_done_times r count i k p total le so_far =
    let n : count - i ≡ 0 = omega arith in
    let one : times r (count - i) k p ≡ Ok (k, p) = rw n refl in
    sym so_far ∙ one
