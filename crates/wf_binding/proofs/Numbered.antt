-- Lists that are numbered, one element after the other.
use Rattle.std.proofs.Common.{◌≡◌, ℕ, zero, suc, ◌+◌, ◌<◌, ◌≤◌, List, [], ◌∷◌, ◌++◌, length, take, get_or, Option, Some, None, refl, sym, ap, subst, ◌∙◌, arith, inl, inr, ◌⊎◌}
use Rattle.std.specs.Prelude.{slice_get}
use Rattle.std.proofs.lemmas.Bool.{cases_lt}
use Rattle.std.proofs.lemmas.List.{take_more, length-append}
use Rattle.std.proofs.lemmas.Option.{slice_get_within, same_Some}
use Rattle.wf_binding.specs.Numbering.{AreNumbered}

get_front : {X : Type 0} (xs : List X) (y : X) (i : ℕ) → i < length xs → slice_get (xs ++ y ∷ []) i ≡ slice_get xs i
get_front [] y i l = absurd (omega arith)
get_front (x ∷ xs) y zero l = refl
get_front (x ∷ xs) y (suc i) l = get_front xs y i (omega arith)

get_last : {X : Type 0} (xs : List X) (y : X) → slice_get (xs ++ y ∷ []) (length xs) ≡ Some y
get_last [] y = refl
get_last (x ∷ xs) y = get_last xs y

-- one more of each
pub numbered_more : {X Y : Type 0} (R : X → Y → Type 0) (xs : List X) (ys : List Y) (x : X) (y : Y) → AreNumbered R xs ys → R x y → AreNumbered R (xs ++ x ∷ []) (ys ++ y ∷ [])
numbered_more {X} {Y} R xs ys x y h r = record {
  count = omega (arith, h.count, length-append xs (x ∷ []), length-append ys (y ∷ []));
  each = λ i a b e f. at i a b (cases_lt i (length xs)) e f;
} where
  at : (i : ℕ) (a : X) (b : Y) → ((i < length xs) ⊎ (length xs ≤ i)) → slice_get (xs ++ x ∷ []) i ≡ Some a → slice_get (ys ++ y ∷ []) i ≡ Some b → R a b
  at i a b (inl l) e f = h.each i a b (sym (get_front xs x i l) ∙ e) (sym (get_front ys y i (omega (arith, l, h.count))) ∙ f)
  at i a b (inr m) e f =
      let here : i ≡ length xs = (let w = slice_get_within (xs ++ x ∷ []) i a e in omega (arith, w, m, length-append xs (x ∷ []))) in
      let there : i ≡ length ys = omega (arith, here, h.count) in
      let one : x ≡ a = same_Some x a (sym (get_last xs x) ∙ sym (ap (λ j. slice_get (xs ++ x ∷ []) j) here) ∙ e) in
      let other : y ≡ b = same_Some y b (sym (get_last ys y) ∙ sym (ap (λ j. slice_get (ys ++ y ∷ []) j) there) ∙ f) in
      subst (λ z. R z b) one (subst (R x) other r)

-- the same of the first of a list
pub numbered_on : {X Y : Type 0} (R : X → Y → Type 0) (xs : List X) (ys : List Y) (i : ℕ) (x : X) (y : Y) → i < length xs → x ≡ get_or xs i x → AreNumbered R (take i xs) ys → R x y → AreNumbered R (take (i + 1) xs) (ys ++ y ∷ [])
numbered_on R xs ys i x y l e h r =
    subst (λ zs. AreNumbered R zs (ys ++ y ∷ [])) (sym (take_more xs i x l ∙ ap (λ z. take i xs ++ z ∷ []) (sym e))) (numbered_more R (take i xs) ys x y h r)
