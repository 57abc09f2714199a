-- What one element more gives, where what the elements of a list give is put one behind the other.
use Rattle.std.proofs.Common.{◌≡◌, ℕ, ◌+◌, ◌<◌, List, ◌∷◌, ◌++◌, length, get_or, drop, sym, ap, ◌∙◌, append_assoc, add-one, drop-cons}
use Rattle.wf_rows.specs.Each.{each_from}

pub added_next : {A B : Type 0} (f : ℕ → A → List B) (xs : List A) (j : ℕ) (d : A) (old new total : List B)
    → j < length xs → new ≡ old ++ f j (get_or xs j d) → old ++ each_from f j (drop j xs) ≡ total
    → new ++ each_from f (j + 1) (drop (j + 1) xs) ≡ total
added_next {A} {B} f xs j d old new total h e k =
    let x : A = get_or xs j d in
    let rest : List A = drop (j + 1) xs in
    let parts : drop j xs ≡ x ∷ rest = rw add-one (drop-cons xs j d h) in
    ap (λ (l : List B). l ++ each_from f (j + 1) rest) e
    ∙ append_assoc old (f j x) (each_from f (j + 1) rest)
    ∙ ap (λ (l : List A). old ++ each_from f j l) (sym parts)
    ∙ k
