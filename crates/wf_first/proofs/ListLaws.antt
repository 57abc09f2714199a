-- What a list contains, and tests over lists.
use Rattle.std.proofs.Common.{◌≡◌, ℕ, zero, suc, ◌<◌, Bool, true, false, ◌&&◌, ◌||◌, ◌⊎◌, List, [], ◌∷◌, length, map, slice_index_or, refl, sym, ap, ◌∙◌, arith, inl, inr}
use Rattle.std.specs.Prelude.{Contains}
use Rattle.std.specs.List.{list_all, list_any}

pub and_both : (a b : Bool) → (a && b) ≡ true → (a ≡ true) × (b ≡ true)
and_both true b e = (refl, e)
and_both false b e = absurd cc

pub contains_head : {X : Type 0} (x : X) (xs : List X) → Contains (x ∷ xs) x
contains_head x xs = (0, omega arith, refl)

pub contains_tail : {X : Type 0} (x y : X) (xs : List X) → Contains xs x → Contains (y ∷ xs) x
contains_tail x y xs h = (suc h.0, omega (arith, h.1), h.2)

pub contains_cases : {X : Type 0} (x y : X) (xs : List X) → Contains (y ∷ xs) x → (y ≡ x) ⊎ Contains xs x
contains_cases x y xs h = go h.0 h.1 h.2
  where
    go : (k : ℕ) → k < length (y ∷ xs) → slice_index_or (y ∷ xs) k x ≡ x → (y ≡ x) ⊎ Contains xs x
    go zero lt e = inl e
    go (suc k) lt e = inr (k, omega arith, e)

pub contains_nothing : {X : Type 0} (x : X) → Contains [] x → ⊥
contains_nothing x h = omega (arith, h.1)

-- a test that each element passes
pub all_at : {X : Type 0} (p : X → Bool) (xs : List X) (x : X) → list_all p xs ≡ true → Contains xs x → p x ≡ true
all_at p [] x e h = absurd (contains_nothing x h)
all_at p (y ∷ xs) x e h =
    let both = and_both (p y) (list_all p xs) e in
    elim (contains_cases x y xs h) [ inl same ↦ ap p (sym same) ∙ both.0 | inr later ↦ all_at p xs x both.1 later ]

-- a test that some element passes
pub any_at : {X : Type 0} (p : X → Bool) (xs : List X) (x : X) → Contains xs x → p x ≡ true → list_any p xs ≡ true
any_at p [] x h e = absurd (contains_nothing x h)
any_at p (y ∷ xs) x h e =
    elim (contains_cases x y xs h) [
      | inl same ↦ let first : p y ≡ true = ap p same ∙ e in rw first refl
      | inr later ↦ or_later (p y) (any_at p xs x later e)
    ]
  where
    or_later : (a : Bool) {b : Bool} → b ≡ true → (a || b) ≡ true
    or_later true e = refl
    or_later false e = e

pub any_where : {X : Type 0} (p : X → Bool) (xs : List X) → list_any p xs ≡ true → (x : X) × Contains xs x × (p x ≡ true)
any_where p [] e = absurd cc
any_where {X = X} p (y ∷ xs) e = go (λ h. any_where p xs h) (p y) refl e
  where
    go : (list_any p xs ≡ true → (x : X) × Contains xs x × (p x ≡ true)) → (b : Bool) → p y ≡ b → (b || list_any p xs) ≡ true → (x : X) × Contains (y ∷ xs) x × (p x ≡ true)
    go later true is e = (y, contains_head y xs, is)
    go later false is e = let w = later e in (w.0, contains_tail w.0 y xs w.1, w.2)

-- a test over a list that was mapped
pub any_map : {A B : Type 0} (p : B → Bool) (f : A → B) (xs : List A) → list_any p (map f xs) ≡ list_any (λ x. p (f x)) xs
any_map p f [] = refl
any_map p f (x ∷ xs) = ap (λ (b : Bool). p (f x) || b) (any_map p f xs)
