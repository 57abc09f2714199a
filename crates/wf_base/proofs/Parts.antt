-- A part of a part is a part.
use Rattle.std.proofs.Common.{◌≡◌, ℕ, ◌+◌, ◌-◌, ◌≤◌, List, length, take, drop, refl, sym, ap, subst, ◌∙◌, arith}
use Rattle.std.proofs.lemmas.List.{drop-take, drop-drop, take-take, length-take}

pub shown : (xs ys : List ℕ) (begin n first len : ℕ) → ys ≡ take n (drop begin xs) → first + len ≤ length ys
    → take len (drop (begin + first) xs) ≡ take len (drop first ys)
shown xs ys begin n first len is fits =
    let small : first + len ≤ n = omega (arith, ap (λ (l : List ℕ). length l) is, length-take n (drop begin xs), fits) in
    let split : first + (n - first) ≡ n = omega (arith, small) in
    let behind : drop first (take n (drop begin xs)) ≡ take (n - first) (drop first (drop begin xs)) =
    subst (λ (m : ℕ). drop first (take m (drop begin xs)) ≡ take (n - first) (drop first (drop begin xs))) split (drop-take first (n - first) (drop begin xs)) in
    let cut : take len (take (n - first) (drop first (drop begin xs))) ≡ take len (drop first (drop begin xs)) =
    take-take len (n - first) (drop first (drop begin xs)) (omega (arith, small)) in
    sym (ap (λ (l : List ℕ). take len (drop first l)) is ∙ ap (λ (l : List ℕ). take len l) behind ∙ cut ∙ ap (λ (l : List ℕ). take len l) (drop-drop first begin xs))
