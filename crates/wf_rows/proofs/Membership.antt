-- What an element of a list gives is among what the list gives.
use Rattle.std.proofs.Common.{◌≡◌, ℕ, zero, suc, ◌+◌, ◌<◌, List, [], ◌∷◌, take, Some, None, sym, subst, arith}
use Rattle.std.specs.Prelude.{slice_get}
use Rattle.std.specs.List.{Contains}
use Rattle.std.proofs.lemmas.List.Elements.{Contains-append_left, Contains-append_right}
use Rattle.wf_rows.specs.Each.{each_from}

some_is : {A : Type 0} (a b : A) → Some a ≡ Some b → a ≡ b
some_is a b e = cc

none_is : {A : Type 0} {R : Type 0} (a : A) → None ≡ Some a → R
none_is a e = absurd cc

-- an element at a place of a list, and what it gives
pub each-has : {A B : Type 0} (f : ℕ → A → List B) (first i n : ℕ) (xs : List A) (x : A) (r : B)
    → first + i ≡ n → slice_get xs i ≡ Some x → Contains (f n x) r → Contains (each_from f first xs) r
each-has f first i n [] x r e g h = none_is x g
each-has {A} {B} f first zero n (y ∷ ys) x r e g h =
    let m : n ≡ first = omega arith in
    let P : ℕ → Type 0 = λ k. Contains (f k y) r in
    let Q : A → Type 0 = λ z. Contains (f n z) r in
    Contains-append_left (f first y) (each_from f (first + 1) ys) r (subst P m (subst Q (sym (some_is y x g)) h))
each-has f first (suc i) n (y ∷ ys) x r e g h =
    Contains-append_right (f first y) (each_from f (first + 1) ys) r (each-has f (first + 1) i n ys x r (omega arith) g h)

-- an element of the front of a list
pub slice_get-front : {A : Type 0} (xs : List A) (n i : ℕ) (x : A) → i < n → slice_get xs i ≡ Some x → slice_get (take n xs) i ≡ Some x
slice_get-front [] n i x h g = none_is x g
slice_get-front (y ∷ ys) zero i x h g = absurd (omega arith)
slice_get-front (y ∷ ys) (suc n) zero x h g = g
slice_get-front (y ∷ ys) (suc n) (suc i) x h g = slice_get-front ys n i x (omega arith) g
