-- The array types, one type after the other.
use Rattle.std.proofs.Common.{◌≡◌, ℕ, zero, suc, ◌+◌, ◌<◌, ◌≤◌, Bool, true, false, cond, eqb, List, [], ◌∷◌, ◌++◌, length, get_or, Option, Some, None, refl, sym, ap, subst, ◌∙◌, arith, inl, inr, ◌⊎◌, append-nil}
use Rattle.std.specs.Prelude.{nat_lt, not, position, slice_get}
use Rattle.std.specs.List.{position_or_len}
use Rattle.std.specs.Option.{option_to_list}
use Rattle.std.proofs.lemmas.Bool.{cases_lt, lt-ltb, le-ltb, eq-eqb, eqb-true}
use Rattle.std.proofs.lemmas.List.{get_or_append_left, get_or_push, get_or_past, length_push}
use Rattle.std.proofs.lemmas.List.Folds.{position_or_len_push}
use Rattle.std.proofs.lemmas.List.Sums.{prefix_len-le-length}
use Rattle.wf_base.specs.declared.ids.TargetId.{TargetId}
use Rattle.wf_base.specs.declared.ids.TypeId.{TypeId}
use Rattle.wf_subtype.specs.declared.reference.Reference.{Reference}
use Rattle.wf_subtype.specs.References.{component_of}
use Rattle.wf_subtype.specs.Subtypes.{AllTypes, IsNumberOf, IsTargetOf}
use Rattle.wf_rows.specs.declared.context.ArrayType.{ArrayType}
use Rattle.wf_nodes.specs.Numbering.{is_array}
use Rattle.wf_nodes.specs.Sharing.{AreArrays}
use Rattle.wf_nodes.specs.Sharing.AreArrays.{none, array, other}
use Rattle.wf_nodes.specs.Tables.{IsArrayAt, ArePlacesOfArrays, Goes}

-- ---- places

module _ {X : Type 0} (p : X → Bool) (xs : List X) (x : X) where
  place_is : (w : ℕ) → position_or_len p (xs ++ x ∷ []) ≡ w → position p (xs ++ x ∷ []) ≡ cond (nat_lt w (length xs + 1)) (Some w) None
  place_is w e = ap (λ (q : ℕ). cond (nat_lt q (length (xs ++ x ∷ []))) (Some q) None) e ∙ ap (λ (n : ℕ). cond (nat_lt w n) (Some w) None) (length_push xs x)

  -- one that doesn't pass is never found
  pub position_past : p x ≡ false → position p (xs ++ x ∷ []) ≡ position p xs
  position_past f = at (eqb q n) refl (cases_lt q n) where
    q : ℕ
    q = position_or_len p xs

    n : ℕ
    n = length xs

    at : (b : Bool) → eqb q n ≡ b → ((q < n) ⊎ (n ≤ q)) → position p (xs ++ x ∷ []) ≡ position p xs
    at true e l =
        let same = eqb-true q n e in
        let w : position_or_len p (xs ++ x ∷ []) ≡ n + 1 = position_or_len_push p xs x ∙ ap (λ b. cond b (n + cond (p x) 0 1) q) e ∙ ap (λ b. n + cond b 0 1) f in
        place_is (n + 1) w ∙ ap (λ b. cond b (Some (n + 1)) None) (le-ltb (n + 1) (n + 1) (omega arith)) ∙ sym (ap (λ b. cond b (Some q) None) (le-ltb q n (omega (arith, same))))
    at false e (inl l) =
        let w : position_or_len p (xs ++ x ∷ []) ≡ q = position_or_len_push p xs x ∙ ap (λ b. cond b (n + cond (p x) 0 1) q) e in
        place_is q w ∙ ap (λ b. cond b (Some q) None) (lt-ltb q (n + 1) (omega (arith, l))) ∙ sym (ap (λ b. cond b (Some q) None) (lt-ltb q n l))
    at false e (inr m) = absurd (let same : q ≡ n = omega (arith, m, prefix_len-le-length (λ x. not (p x)) xs) in let t = eq-eqb q n same in cc)

  -- one that passes is found where none before it does
  pub position_last : p x ≡ true → position p xs ≡ None → position p (xs ++ x ∷ []) ≡ Some (length xs)
  position_last t e = at (cases_lt (position_or_len p xs) (length xs)) where
    at : ((position_or_len p xs < length xs) ⊎ (length xs ≤ position_or_len p xs)) → position p (xs ++ x ∷ []) ≡ Some (length xs)
    at (inl l) = absurd (let some = ap (λ b. cond b (Some (position_or_len p xs)) None) (lt-ltb (position_or_len p xs) (length xs) l) in cc (some, e))
    at (inr m) =
        let n = length xs in
        let same : position_or_len p xs ≡ n = omega (arith, m, prefix_len-le-length (λ x. not (p x)) xs) in
        let w : position_or_len p (xs ++ x ∷ []) ≡ n + 0 = position_or_len_push p xs x ∙ ap (λ b. cond b (n + cond (p x) 0 1) (position_or_len p xs)) (eq-eqb (position_or_len p xs) n same) ∙ ap (λ b. n + cond b 0 1) t in
        place_is n (omega (arith, w)) ∙ ap (λ b. cond b (Some n) None) (lt-ltb n (n + 1) (omega arith))

push_default : {X : Type 0} (xs : List X) (i : ℕ) (d : X) → get_or (xs ++ d ∷ []) i d ≡ get_or xs i d
push_default [] zero d = refl
push_default [] (suc i) d = refl
push_default (x ∷ xs) zero d = refl
push_default (x ∷ xs) (suc i) d = push_default xs i d

pub no_arrays : (types : AllTypes) → AreArrays types 0 []
no_arrays types = none

pub no_places : ArePlacesOfArrays [] (None ∷ [])
no_places = record { each = λ t. push_default [] t.0 None }

-- the next type is no array
places_past : (xs new : List ArrayType) (places new_places : List (Option ℕ)) → ArePlacesOfArrays xs places → Goes xs places None new new_places → ArePlacesOfArrays new new_places
places_past xs new places new_places h g = record {
  each = λ t. ap (λ (ps : List (Option ℕ)). get_or ps t.0 None) g.places ∙ push_default places t.0 None ∙ h.each t ∙ ap (position (is_array t)) (sym (g.arrays ∙ append-nil xs));
}

-- it is one
places_array : (n : ℕ) (xs new : List ArrayType) (places new_places : List (Option ℕ)) (a : ArrayType) → length places ≡ n + 1 → a.array.0 ≡ n + 1 → ArePlacesOfArrays xs places → Goes xs places (Some a) new new_places → ArePlacesOfArrays new new_places
places_array n xs new places new_places a count number h g = record { each = λ t. ap (λ (ps : List (Option ℕ)). get_or ps t.0 None) g.places ∙ at t (is_array t a) refl (cases_lt t.0 (n + 1)) ∙ ap (position (is_array t)) (sym g.arrays) } where
  at : (t : TypeId) (b : Bool) → is_array t a ≡ b → ((t.0 < n + 1) ⊎ (n + 1 ≤ t.0)) → get_or (places ++ Some (length xs) ∷ []) t.0 None ≡ position (is_array t) (xs ++ a ∷ [])
  at t true e l =
      let same : t.0 ≡ n + 1 = eqb-true t.0 a.array.0 e ∙ number in
      get_or_push places (Some (length xs)) None t.0 (omega (arith, same, count)) ∙ sym (position_last (is_array t) xs a e (sym (h.each t) ∙ get_or_past places t.0 None (omega (arith, same, count))))
  at t false e (inl l) = get_or_append_left places (Some (length xs) ∷ []) None t.0 (omega (arith, l, count)) ∙ h.each t ∙ sym (position_past (is_array t) xs a e)
  at t false e (inr m) = above (cases_lt (n + 1) t.0) where
    above : ((n + 1 < t.0) ⊎ (t.0 ≤ n + 1)) → get_or (places ++ Some (length xs) ∷ []) t.0 None ≡ position (is_array t) (xs ++ a ∷ [])
    above (inl l) =
        get_or_past (places ++ Some (length xs) ∷ []) t.0 None (omega (arith, l, count, length_push places (Some (length xs))))
        ∙ sym (get_or_past places t.0 None (omega (arith, l, count))) ∙ h.each t ∙ sym (position_past (is_array t) xs a e)
    above (inr k) = absurd (let here = eq-eqb t.0 a.array.0 (omega (arith, m, k, number)) in cc (here, e))

-- one type more
pub places_on : (types : AllTypes) (n : ℕ) (xs new : List ArrayType) (places new_places : List (Option ℕ)) (found : Option ArrayType) → length places ≡ n + 1 → ArePlacesOfArrays xs places → IsArrayAt types n found → Goes xs places found new new_places → ArePlacesOfArrays new new_places
places_on types n xs new places new_places None count h is g = places_past xs new places new_places h g
places_on types n xs new places new_places (Some a) count h is g = places_array n xs new places new_places a count is.5 h g

-- ---- the list

pub arrays_on : (types : AllTypes) (n : ℕ) (xs new : List ArrayType) (found : Option ArrayType) → AreArrays types n xs → IsArrayAt types n found → new ≡ xs ++ option_to_list found → AreArrays types (n + 1) new
arrays_on types n xs new None h is e = subst (AreArrays types (n + 1)) (sym (e ∙ append-nil xs)) (other n xs is.0 h is.1 is.2)
arrays_on types n xs new (Some a) h is e =
    let same : a ≡ record { array = record { 0 = n + 1 }; component = a.component } = ap (λ (k : ℕ). record { array = record { 0 = k }; component = a.component }) is.5 in
    subst (AreArrays types (n + 1)) (sym (e ∙ ap (λ (b : ArrayType). xs ++ b ∷ []) same)) (array n xs is.0 is.1 a.component h is.2 is.3 is.4)

pub few_more : (xs : List ArrayType) (found : Option ArrayType) → length (xs ++ option_to_list found) ≤ length xs + 1
few_more xs None = omega (arith, ap length (append-nil xs))
few_more xs (Some a) = omega (arith, length_push xs a)

-- an array of references by the number of its component
pub array_found : (types : AllTypes) (n : ℕ) (r : Reference) (u : TargetId) → slice_get types.references n ≡ Some r → IsNumberOf types (component_of r) (Some u.0) → (r : Reference) × (c : Reference) × (slice_get types.references n ≡ Some r) × (component_of r ≡ Some c) × IsTargetOf types u.0 c
array_found types n r u there is = at (component_of r) refl is where
  at : (o : Option Reference) → component_of r ≡ o → IsNumberOf types o (Some u.0) → (r : Reference) × (c : Reference) × (slice_get types.references n ≡ Some r) × (component_of r ≡ Some c) × IsTargetOf types u.0 c
  at None e h = absurd (cc h)
  at (Some c) e h = (r, c, there, e, h)
