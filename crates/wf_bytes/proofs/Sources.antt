-- The bytes that a cursor passes and those that it leaves are parts of its file.
use Rattle.std.proofs.Common.{◌≡◌, ℕ, ◌+◌, ◌-◌, ◌≤◌, List, length, take, drop, Option, Some, None, sym, ap, subst, ◌∙◌, arith}
use Rattle.std.proofs.lemmas.List.{drop-take, drop-drop, take-take, length-take, length-drop, take_rest}
use Rattle.wf_bytes.specs.Source.{IsPartOf, AreOf}

behind_in : (file : List ℕ) (at n : ℕ) (left : List ℕ) → n ≤ length left → IsPartOf file at left → IsPartOf file (at + n) (drop n left)
behind_in file at n left le part =
    let size : length (drop n left) ≡ length left - n = length-drop n left in
    let split : n + (length left - n) ≡ length left = omega (arith, le) in
    let cut : drop n (take (length left) (drop at file)) ≡ take (length left - n) (drop n (drop at file)) =
    subst (λ (m : ℕ). drop n (take m (drop at file)) ≡ take (length left - n) (drop n (drop at file))) split (drop-take n (length left - n) (drop at file)) in
    record {
      same = ap (λ (xs : List ℕ). drop n xs) part.same ∙ cut ∙ ap (λ (xs : List ℕ). take (length left - n) xs) (drop-drop n at file) ∙ ap (λ (m : ℕ). take m (drop (at + n) file)) (sym size);
      fits = omega (arith, size, le, part.fits);
    }

pub front : (file : List ℕ) (at n : ℕ) (left : List ℕ) → n ≤ length left → IsPartOf file at left → take n (drop at file) ≡ take n left
front file at n left le part =
    sym (ap (λ (xs : List ℕ). take n xs) part.same ∙ take-take n (length left) (drop at file) le)

in_front_in : (file : List ℕ) (at n : ℕ) (left : List ℕ) → n ≤ length left → IsPartOf file at left → IsPartOf file at (take n left)
in_front_in file at n left le part =
    let size : length (take n left) ≡ n = grind (arith, length-take n left, le) in
    record {
      same = sym (front file at n left le part) ∙ ap (λ (m : ℕ). take m (drop at file)) (sym size);
      fits = omega (arith, size, le, part.fits);
    }

pub behind : (file : Option (List ℕ)) (at n : ℕ) (left : List ℕ) → n ≤ length left → AreOf file at left → AreOf file (at + n) (take (length left - n) (drop n left))
behind None at n left le are = tt
behind (Some file) at n left le are = subst (λ (xs : List ℕ). IsPartOf file (at + n) xs) (sym (take_rest left n)) (behind_in file at n left le are)

pub in_front : (file : Option (List ℕ)) (at n : ℕ) (left : List ℕ) → n ≤ length left → AreOf file at left → AreOf file at (take n left)
in_front None at n left le are = tt
in_front (Some file) at n left le are = in_front_in file at n left le are

pub shorter : (left : List ℕ) (n : ℕ) → length (take (length left - n) (drop n left)) ≡ length left - n
shorter left n = rw take_rest (length-drop n left)
