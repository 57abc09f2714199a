-- Lists that go along with others, element by element.
use Rattle.std.proofs.Common.{◌≡◌, ℕ, zero, suc, ◌+◌, ◌<◌, ◌≤◌, List, [], ◌∷◌, ◌++◌, length, take, get_or, Some, refl, sym, ap, subst, ◌∙◌, arith, inl, inr, ◌⊎◌}
use Rattle.std.specs.Prelude.{slice_get}
use Rattle.std.specs.List.{AllZip}
use Rattle.std.proofs.lemmas.Bool.{cases_lt}
use Rattle.std.proofs.lemmas.List.{take_more, length-append}
use Rattle.std.proofs.lemmas.Option.{slice_get_within, same_Some}

pub zip_push : {A B : Type 0} (R : A → B → Type 0) (xs : List A) (ys : List B) (x : A) (y : B) → AllZip R xs ys → R x y → AllZip R (xs ++ x ∷ []) (ys ++ y ∷ [])
zip_push R [] [] x y h r = (r, tt)
zip_push R [] (z ∷ ys) x y h r = absurd h
zip_push R (z ∷ xs) [] x y h r = absurd h
zip_push R (w ∷ xs) (z ∷ ys) x y h r = (h.0, zip_push R xs ys x y h.1 r)

pub zip_append : {A B : Type 0} (R : A → B → Type 0) (xs vs : List A) (ys ws : List B) → AllZip R xs ys → AllZip R vs ws → AllZip R (xs ++ vs) (ys ++ ws)
zip_append R [] vs [] ws h r = r
zip_append R [] vs (z ∷ ys) ws h r = absurd h
zip_append R (z ∷ xs) vs [] ws h r = absurd h
zip_append R (w ∷ xs) vs (z ∷ ys) ws h r = (h.0, zip_append R xs vs ys ws h.1 r)

-- the same of the first of a list
pub zip_on : {A B : Type 0} (R : A → B → Type 0) (xs : List A) (ys : List B) (i : ℕ) (x : A) (y : B) → i < length xs → x ≡ get_or xs i x → AllZip R (take i xs) ys → R x y → AllZip R (take (i + 1) xs) (ys ++ y ∷ [])
zip_on R xs ys i x y l e h r =
    subst (λ zs. AllZip R zs (ys ++ y ∷ [])) (sym (take_more xs i x l ∙ ap (λ z. take i xs ++ z ∷ []) (sym e))) (zip_push R (take i xs) ys x y h r)

pub zip_weaken : {A B : Type 0} (R S : A → B → Type 0) → ((x : A) (y : B) → R x y → S x y) → (xs : List A) (ys : List B) → AllZip R xs ys → AllZip S xs ys
zip_weaken R S f [] [] h = tt
zip_weaken R S f [] (y ∷ ys) h = absurd h
zip_weaken R S f (x ∷ xs) [] h = absurd h
zip_weaken R S f (x ∷ xs) (y ∷ ys) h = (f x y h.0, zip_weaken R S f xs ys h.1)

-- two that share the list in the middle
pub zip_both : {A B C : Type 0} (R : A → B → Type 0) (S : B → C → Type 0) (T : A → C → Type 0) → ((x : A) (y : B) (z : C) → R x y → S y z → T x z) → (xs : List A) (ys : List B) (zs : List C) → AllZip R xs ys → AllZip S ys zs → AllZip T xs zs
zip_both R S T f [] [] [] h g = tt
zip_both R S T f [] [] (z ∷ zs) h g = absurd g
zip_both R S T f [] (y ∷ ys) zs h g = absurd h
zip_both R S T f (x ∷ xs) [] zs h g = absurd h
zip_both R S T f (x ∷ xs) (y ∷ ys) [] h g = absurd g
zip_both R S T f (x ∷ xs) (y ∷ ys) (z ∷ zs) h g = (f x y z h.0 g.0, zip_both R S T f xs ys zs h.1 g.1)

pub get_front : {X : Type 0} (xs : List X) (y : X) (i : ℕ) → i < length xs → slice_get (xs ++ y ∷ []) i ≡ slice_get xs i
get_front [] y i l = absurd (omega arith)
get_front (x ∷ xs) y zero l = refl
get_front (x ∷ xs) y (suc i) l = get_front xs y i (omega arith)

pub get_last : {X : Type 0} (xs : List X) (y : X) → slice_get (xs ++ y ∷ []) (length xs) ≡ Some y
get_last [] y = refl
get_last (x ∷ xs) y = get_last xs y

-- an element of a list with one more is in front, or the last
pub ends : {X : Type 0} (xs : List X) (y a : X) (i : ℕ) → slice_get (xs ++ y ∷ []) i ≡ Some a → ((i < length xs) × (slice_get xs i ≡ Some a)) ⊎ ((i ≡ length xs) × (y ≡ a))
ends xs y a i e = at (cases_lt i (length xs)) where
  at : ((i < length xs) ⊎ (length xs ≤ i)) → ((i < length xs) × (slice_get xs i ≡ Some a)) ⊎ ((i ≡ length xs) × (y ≡ a))
  at (inl l) = inl (l, sym (get_front xs y i l) ∙ e)
  at (inr m) =
      let here : i ≡ length xs = (let w = slice_get_within (xs ++ y ∷ []) i a e in omega (arith, w, m, length-append xs (y ∷ []))) in
      inr (here, same_Some y a (sym (get_last xs y) ∙ sym (ap (λ j. slice_get (xs ++ y ∷ []) j) here) ∙ e))
