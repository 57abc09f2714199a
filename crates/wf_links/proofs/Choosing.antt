-- The types that select, one after the other.
use Rattle.std.proofs.Common.{◌≡◌, ℕ, ◌+◌, ◌<◌, ◌≤◌, Bool, true, false, List, [], ◌∷◌, ◌++◌, length, Option, Some, None, refl, sym, ap, subst, ◌∙◌, arith, inl, inr, ◌⊎◌}
use Rattle.std.specs.Prelude.{slice_get, ◌==◌, if◌then◌else◌}
use Rattle.std.proofs.lemmas.Bool.{cases_lt, eq-eqb, ne_eqb}
use Rattle.wf_base.specs.declared.ids.MethodId.{MethodId}
use Rattle.wf_base.specs.declared.ids.TypeId.{TypeId}
use Rattle.wf_subtype.specs.Subtypes.{AllTypes}
use Rattle.wf_links.specs.declared.callee.Callee.{Callee}
use Rattle.wf_links.specs.declared.picking.Chosen.{Chosen}
use Rattle.wf_links.specs.Candidates.{IsSelectedBy, AreChosen, NoneSelect, chosen_of, with_choice}
use Rattle.wf_links.proofs.Pairing.{ends}

-- another type selects as before
chosen_other : (list : List Chosen) (c : Chosen) (t : ℕ) → (c.t.0 == t) ≡ false → chosen_of (list ++ c ∷ []) t ≡ chosen_of list t
chosen_other [] c t e = ap (λ b. if b then Some c.method else None) e
chosen_other (x ∷ xs) c t e = ap (λ r. if x.t.0 == t then Some x.method else r) (chosen_other xs c t e)

pub same_number : (n : ℕ) → (n == n) ≡ true
same_number n = eq-eqb n n refl

pub other_number : (m n : ℕ) → (m ≡ n → ⊥) → (m == n) ≡ false
other_number m n u = ne_eqb m n u

no_Some : {X : Type 0} (x : X) → Some x ≡ None → ⊥
no_Some x e = absurd cc

-- a type that selected nothing selects what is added
chosen_own : (list : List Chosen) (c : Chosen) → chosen_of list c.t.0 ≡ None → chosen_of (list ++ c ∷ []) c.t.0 ≡ Some c.method
chosen_own [] c e = ap (λ b. if b then Some c.method else None) (same_number c.t.0)
chosen_own (x ∷ xs) c e = at (x.t.0 == c.t.0) refl (λ f. chosen_own xs c f) where
  at : (b : Bool) → (x.t.0 == c.t.0) ≡ b → (chosen_of xs c.t.0 ≡ None → chosen_of (xs ++ c ∷ []) c.t.0 ≡ Some c.method) → chosen_of ((x ∷ xs) ++ c ∷ []) c.t.0 ≡ Some c.method
  at true same on = absurd (no_Some x.method (sym (ap (λ b. if b then Some x.method else chosen_of xs c.t.0) same) ∙ e))
  at false other on =
      ap (λ b. if b then Some x.method else chosen_of (xs ++ c ∷ []) c.t.0) other
      ∙ on (sym (ap (λ b. if b then Some x.method else chosen_of xs c.t.0) other) ∙ e)

module _ (types : AllTypes) (callee : Callee) where
  -- null is no receiver
  pub none_chosen : AreChosen types callee 0 []
  none_chosen = record {
    ascending = λ i j a b l e f. absurd cc;
    few = λ i a e. absurd cc;
    each = λ t l. record { receiver = λ r. absurd (let s = r.some in omega arith); other = λ u. refl };
    rest = λ t l. refl;
  }

  -- types more, which select nothing
  pub chosen_over : (m n : ℕ) (list : List Chosen) → m ≤ n → AreChosen types callee m list → NoneSelect types callee m n → AreChosen types callee n list
  chosen_over m n list l h none = record {
    ascending = h.ascending;
    few = λ i a e. (let f = h.few i a e in omega (arith, f, l));
    each = λ t k. at t k (cases_lt m t);
    rest = λ t k. h.rest t (omega (arith, l, k));
  } where
    at : (t : ℕ) → t ≤ n → ((m < t) ⊎ (t ≤ m)) → IsSelectedBy types callee t (chosen_of list t)
    at t k (inr i) = h.each t i
    at t k (inl i) = subst (IsSelectedBy types callee t) (sym (h.rest t i)) (none.each t i k)

  -- one type more, which selects nothing
  pub chosen_on : (n : ℕ) (list : List Chosen) → AreChosen types callee n list → IsSelectedBy types callee (n + 1) None → AreChosen types callee (n + 1) list
  chosen_on n list h s = record {
    ascending = h.ascending;
    few = λ i a e. (let f = h.few i a e in omega arith);
    each = λ t l. at t l (cases_lt n t);
    rest = λ t l. h.rest t (omega arith);
  } where
    at : (t : ℕ) → t ≤ n + 1 → ((n < t) ⊎ (t ≤ n)) → IsSelectedBy types callee t (chosen_of list t)
    at t l (inr m) = h.each t m
    at t l (inl m) =
        let here : n + 1 ≡ t = omega arith in
        subst (IsSelectedBy types callee t) (sym (h.rest t m)) (subst (λ u. IsSelectedBy types callee u None) here s)

  -- one type more, which selects a method
  pub chosen_more : (n : ℕ) (list : List Chosen) (c : Chosen) → c.t.0 ≡ n + 1 → AreChosen types callee n list → IsSelectedBy types callee (n + 1) (Some c.method) → AreChosen types callee (n + 1) (list ++ c ∷ [])
  chosen_more n list c own h s = record {
    ascending = λ i j a b l e f. up i j a b l (ends list c a i e) (ends list c b j f);
    few = λ i a e. few i a (ends list c a i e);
    each = λ t l. at t l (cases_lt n t);
    rest = λ t l. chosen_other list c t (other_number c.t.0 t (λ e. omega (arith, e, own, l))) ∙ h.rest t (omega arith);
  } where
    few : (i : ℕ) (a : Chosen) → ((i < length list) × (slice_get list i ≡ Some a)) ⊎ ((i ≡ length list) × (c ≡ a)) → a.t.0 ≤ n + 1
    few i a (inl front) = (let f = h.few i a front.1 in omega arith)
    few i a (inr last) = (let same = ap (λ (x : Chosen). x.t.0) last.1 in omega (arith, same, own))

    up : (i j : ℕ) (a b : Chosen) → i < j → ((i < length list) × (slice_get list i ≡ Some a)) ⊎ ((i ≡ length list) × (c ≡ a)) → ((j < length list) × (slice_get list j ≡ Some b)) ⊎ ((j ≡ length list) × (c ≡ b)) → a.t.0 < b.t.0
    up i j a b l (inl x) (inl y) = h.ascending i j a b l x.1 y.1
    up i j a b l (inl x) (inr y) = (let f = h.few i a x.1 in let same = ap (λ (z : Chosen). z.t.0) y.1 in omega (arith, f, same, own))
    up i j a b l (inr x) (inl y) = absurd (omega (arith, l, x.0, y.0))
    up i j a b l (inr x) (inr y) = absurd (omega (arith, l, x.0, y.0))

    at : (t : ℕ) → t ≤ n + 1 → ((n < t) ⊎ (t ≤ n)) → IsSelectedBy types callee t (chosen_of (list ++ c ∷ []) t)
    at t l (inr m) = subst (IsSelectedBy types callee t) (sym (chosen_other list c t (other_number c.t.0 t (λ e. omega (arith, e, own, m))))) (h.each t m)
    at t l (inl m) =
        let here : n + 1 ≡ t = omega arith in
        let same : c.t.0 ≡ t = own ∙ here in
        let gives : chosen_of (list ++ c ∷ []) t ≡ Some c.method = subst (λ u. chosen_of (list ++ c ∷ []) u ≡ Some c.method) same (chosen_own list c (ap (chosen_of list) same ∙ h.rest t m)) in
        subst (IsSelectedBy types callee t) (sym gives) (subst (λ u. IsSelectedBy types callee u (Some c.method)) here s)

  -- one type more
  pub chosen_step : (n : ℕ) (list : List Chosen) (t : TypeId) (method : Option MethodId) → t.0 ≡ n + 1 → AreChosen types callee n list → IsSelectedBy types callee t.0 method → AreChosen types callee (n + 1) (with_choice list t method)
  chosen_step n list t None own h s = chosen_on n list h (subst (λ u. IsSelectedBy types callee u None) own s)
  chosen_step n list t (Some m) own h s = chosen_more n list (record { t = t; method = m }) own h (subst (λ u. IsSelectedBy types callee u (Some m)) own s)
