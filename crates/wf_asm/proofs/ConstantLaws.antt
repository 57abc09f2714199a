-- The set of a class's constants, as the list of its definition.
use Rattle.std.proofs.Common.{◌≡◌, ℕ, suc, ◌+◌, ◌<◌, ◌≤◌, Bool, true, false, ◌||◌, cond, if◌then◌else◌, nat_lt, List, [], ◌∷◌, ◌++◌, length, get_or, drop, map, Some, None, position, refl, sym, ap, ◌∙◌, arith, add-one, drop-cons, ltb-false}
use Rattle.std.proofs.lemmas.List.Recursion.{is_position_or_len}
use Rattle.std.specs.List.{flat_map, list_any, position_or_len}
use Rattle.wf_listing.specs.declared.listing.Constant.{Constant}
use Rattle.wf_listing.specs.declared.listing.Constant.TheVariants as constant
use Rattle.wf_listing.specs.contracts.listing.ConstantPartialEq.TheImpl.{eq-value}
use Rattle.wf_asm.specs.Constants.{same, with_constant, with_constants, place_of}

-- whether two constants are one, as the code asks
abbrev pub are_one : Constant → Constant → Bool
are_one = (eq-value).it

pub are_one-same : (a b : Constant) → are_one a b ≡ same a b
are_one-same (constant.Text a) (constant.Text b) = refl
are_one-same (constant.Class a) (constant.Class b) = refl
are_one-same (constant.Str a) (constant.Str b) = refl
are_one-same (constant.Int a) (constant.Int b) = refl
are_one-same (constant.Long a) (constant.Long b) = refl
are_one-same (constant.Behind a) (constant.Behind b) = refl
are_one-same (constant.NameType a c) (constant.NameType b d) = refl
are_one-same (constant.Field m) (constant.Field n) = refl
are_one-same (constant.Method m) (constant.Method n) = refl
are_one-same (constant.InterfaceMethod m) (constant.InterfaceMethod n) = refl
are_one-same a b = refl

any_one : (c : Constant) (cs : List Constant) → list_any (are_one c) cs ≡ list_any (same c) cs
any_one c [] = refl
any_one c (d ∷ cs) = rw (are_one-same c d) (ap (λ (b : Bool). same c d || b) (any_one c cs))

pub is_added : (c : Constant) (held old new : List Constant) → held ≡ old → new ≡ (if list_any (are_one c) held then held else held ++ c ∷ []) → new ≡ with_constant old c
is_added c held old new view is = is ∙ ap (λ (b : Bool). if b then held else held ++ c ∷ []) (any_one c held) ∙ ap (λ (cs : List Constant). with_constant cs c) view

-- ---- the place of a constant

-- the same, counted from 0
index_of : List Constant → Constant → ℕ
index_of [] c = 0
index_of (d ∷ ds) c = if same c d then 0 else suc (index_of ds c)

place_is_index : (cs : List Constant) (c : Constant) → place_of cs c ≡ index_of cs c + 1
unfolding index_of
place_is_index [] c = refl
place_is_index (d ∷ ds) c = go (same c d) (place_is_index ds c)
  where
    go : (b : Bool) → place_of ds c ≡ index_of ds c + 1 → (if b then 1 else suc (place_of ds c)) ≡ (if b then 0 else suc (index_of ds c)) + 1
    go true e = refl
    go false e = omega arith

index_or_len : (c : Constant) (cs : List Constant) → index_of cs c ≡ position_or_len (are_one c) cs
unfolding index_of
index_or_len c cs = is_position_or_len (λ (ds : List Constant). index_of ds c) (are_one c) refl (λ d ds. next d ds) cs
  where
    go : (b : Bool) (n : ℕ) → (if b then 0 else suc n) ≡ cond b 0 (1 + n)
    go true n = refl
    go false n = omega arith

    next : (d : Constant) (ds : List Constant) → index_of (d ∷ ds) c ≡ cond (are_one c d) 0 (1 + index_of ds c)
    next d ds = rw (are_one-same c d) (go (same c d) (index_of ds c))

index_fits : (cs : List Constant) (c : Constant) → index_of cs c ≤ length cs
unfolding index_of
index_fits [] c = omega arith
index_fits (d ∷ ds) c = go (same c d) (index_fits ds c)
  where
    go : (b : Bool) → index_of ds c ≤ length ds → (if b then 0 else suc (index_of ds c)) ≤ length (d ∷ ds)
    go true le = omega arith
    go false le = omega arith

-- a place is in the list, or just past its end
pub place_fits : (cs : List Constant) (c : Constant) → place_of cs c ≤ length cs + 1
place_fits cs c = omega (arith, place_is_index cs c, index_fits cs c)

pub place_begins : (cs : List Constant) (c : Constant) → 1 ≤ place_of cs c
place_begins cs c = omega (arith, place_is_index cs c)

pub is_at : (c : Constant) (cs now : List Constant) (n : ℕ) → cs ≡ now → position (are_one c) cs ≡ Some n → n + 1 ≡ place_of now c
is_at c cs now n view found =
    let at : n ≡ position_or_len (are_one c) cs = go (nat_lt (position_or_len (are_one c) cs) (length cs)) found in
    let place : n + 1 ≡ place_of cs c = omega (arith, place_is_index cs c, index_or_len c cs) in
    place ∙ ap (λ (ds : List Constant). place_of ds c) view
  where
    go : (b : Bool) → cond b (Some (position_or_len (are_one c) cs)) None ≡ Some n → n ≡ position_or_len (are_one c) cs
    go true e = cc
    go false e = cc

pub is_nowhere : (c : Constant) (cs now : List Constant) → cs ≡ now → position (are_one c) cs ≡ None → length cs + 1 ≡ place_of now c
is_nowhere c cs now view found =
    let over : length cs ≤ position_or_len (are_one c) cs = go (nat_lt (position_or_len (are_one c) cs) (length cs)) refl found in
    let place : length cs + 1 ≡ place_of cs c = omega (arith, place_is_index cs c, index_or_len c cs, index_fits cs c) in
    place ∙ ap (λ (ds : List Constant). place_of ds c) view
  where
    go : (b : Bool) → nat_lt (position_or_len (are_one c) cs) (length cs) ≡ b → cond b (Some (position_or_len (are_one c) cs)) None ≡ None → length cs ≤ position_or_len (are_one c) cs
    go true is e = cc
    go false is e = ltb-false _ _ is

-- ---- adding constants

pub with_both : (cs xs ys : List Constant) → with_constants cs (xs ++ ys) ≡ with_constants (with_constants cs xs) ys
with_both cs [] ys = refl
with_both cs (x ∷ xs) ys = with_both (with_constant cs x) xs ys

-- The constants of the elements of a list are added, each element's in turn.
pub added_next : {X : Type 0} (f : X → List Constant) (xs : List X) (i : ℕ) (x : X) (old new total : List Constant) → i < length xs → x ≡ get_or xs i x
    → with_constants old (flat_map f (drop i xs)) ≡ total → new ≡ with_constants old (f x) → with_constants new (flat_map f (drop (i + 1) xs)) ≡ total
added_next f xs i x old new total lt is so_far added =
    let cut : drop i xs ≡ get_or xs i x ∷ drop (i + 1) xs = rw (add-one, drop-cons xs i x) refl in
    let here : drop i xs ≡ x ∷ drop (i + 1) xs = cut ∙ ap (λ y. y ∷ drop (i + 1) xs) (sym is) in
    let both : flat_map f (drop i xs) ≡ f x ++ flat_map f (drop (i + 1) xs) = ap (flat_map f) here in
    ap (λ ns. with_constants ns (flat_map f (drop (i + 1) xs))) added ∙ sym (with_both old (f x) (flat_map f (drop (i + 1) xs))) ∙ ap (with_constants old) (sym both) ∙ so_far
