-- Lists that are built place by place.
use Rattle.std.proofs.Common.{◌≡◌, ℕ, ◌+◌, List, [], ◌∷◌, ◌++◌, sym, subst}
use Rattle.wf_body.specs.Each.{AreEach}
use Rattle.wf_body.specs.Each.AreEach.{none, next}

pub none_yet : {A : Type 0} (Is : ℕ → A → Type 0) (xs : List A) → xs ≡ [] → AreEach Is 0 xs
none_yet Is xs e = subst (λ ys. AreEach Is 0 ys) (sym e) none

pub one_more : {A : Type 0} (Is : ℕ → A → Type 0) (n : ℕ) (xs ys : List A) (x : A) → AreEach Is n xs → Is n x → ys ≡ xs ++ x ∷ [] → AreEach Is (n + 1) ys
one_more Is n xs ys x h is e = subst (λ zs. AreEach Is (n + 1) zs) (sym e) (next n xs x h is)
