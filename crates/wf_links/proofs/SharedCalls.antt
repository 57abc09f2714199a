-- What sites call, each once.
use Rattle.std.proofs.Common.{◌≡◌, ℕ, zero, suc, Bool, true, false, true≢false, refl, ◌||◌, ◌+◌, ◌<◌, List, [], ◌∷◌, ◌++◌, length, take, get_or, Contains, arith, Option, Some, inl, inr, ◌⊎◌, sym, ap, subst, ◌∙◌}
use Rattle.std.specs.Prelude.{slice_get, if◌then◌else◌}
use Rattle.std.proofs.Math.Seq.{get_or-append_seam}
use Rattle.std.specs.List.{All, list_any}
use Rattle.std.proofs.lemmas.List.Elements.{All-contains, Contains-get_or}
use Rattle.indexmap.specs.IndexSet.{insert_key}
use Rattle.std.proofs.lemmas.List.{take_more, length-append, get_or_append_left}
use Rattle.wf_links.specs.declared.callee.Callee.{Callee}
use Rattle.wf_links.specs.Candidates.{AreApart, AreShared, Adds, IsPlaceOf}
use Rattle.wf_links.proofs.Pairing.{zip_on, zip_weaken, get_front, ends}
use Rattle.std.proofs.lemmas.Option.{slice_get_within, slice_get-get_or, get_or_from_slice_get, same_Some}

added_old : (old : List (Option Callee)) (callee : Option Callee) (place : ℕ) → slice_get old place ≡ Some callee → Adds old old callee place
added_old old callee place e = record { kept = λ i other f. f; there = e; apart = λ h. h; only = λ x h. inl h }

added_new : (old : List (Option Callee)) (callee : Option Callee) (place : ℕ) → ((i : ℕ) → slice_get old i ≡ Some callee → ⊥) → slice_get (old ++ callee ∷ []) place ≡ Some callee → Adds old (old ++ callee ∷ []) callee place
added_new old callee place new there = record {
  kept = λ i other e. get_front old callee i (slice_get_within old i other e) ∙ e;
  there = there;
  apart = λ h. record { each = λ i j x e f. apart h i j x (ends old callee x i e) (ends old callee x j f) };
  only = λ x h. only x h;
} where
  apart : AreApart old → (i j : ℕ) (x : Option Callee) → ((i < length old) × (slice_get old i ≡ Some x)) ⊎ ((i ≡ length old) × (callee ≡ x)) → ((j < length old) × (slice_get old j ≡ Some x)) ⊎ ((j ≡ length old) × (callee ≡ x)) → i ≡ j
  apart h i j x (inl a) (inl b) = h.each i j x a.1 b.1
  apart h i j x (inl a) (inr b) = absurd (new i (a.1 ∙ ap Some (sym b.1)))
  apart h i j x (inr a) (inl b) = absurd (new j (b.1 ∙ ap Some (sym a.1)))
  apart h i j x (inr a) (inr b) = a.0 ∙ sym b.0

  only : (x : Option Callee) → Contains (old ++ callee ∷ []) x → Contains old x ⊎ (x ≡ callee)
  only x h = at (ends old callee x h.0 (slice_get-get_or (old ++ callee ∷ []) h.0 x h.1 ∙ ap Some h.2)) where
    at : ((h.0 < length old) × (slice_get old h.0 ≡ Some x)) ⊎ ((h.0 ≡ length old) × (callee ≡ x)) → Contains old x ⊎ (x ≡ callee)
    at (inl front) = inl (h.0, front.0, get_or_from_slice_get old h.0 x x front.1)
    at (inr last) = inr (sym last.1)

-- what isn't met isn't among those that were met
pub not_met : (E : Option Callee → Option Callee → Bool) → ((x : Option Callee) → E x x ≡ true) → (old : List (Option Callee)) (callee : Option Callee) → list_any (E callee) old ≡ false → (i : ℕ) → slice_get old i ≡ Some callee → ⊥
not_met E same [] callee none i e = absurd cc
not_met E same (x ∷ xs) callee none i e = at (E callee x) refl (λ f j g. not_met E same xs callee f j g) i e where
  at : (b : Bool) → E callee x ≡ b → (list_any (E callee) xs ≡ false → (j : ℕ) → slice_get xs j ≡ Some callee → ⊥) → (j : ℕ) → slice_get (x ∷ xs) j ≡ Some callee → ⊥
  at true t on j f = true≢false (sym (ap (λ (c : Bool). c || list_any (E callee) xs) t) ∙ none)
  at false t on zero f = true≢false (sym (same callee) ∙ ap (E callee) (sym (same_Some x callee f)) ∙ t)
  at false t on (suc j) f = on (sym (ap (λ (c : Bool). c || list_any (E callee) xs) t) ∙ none) j f

-- what an insertion leaves, where equal calls are one
pub added : (E : Option Callee → Option Callee → Bool) → ((x y : Option Callee) → E x y ≡ true → x ≡ y) → ((x : Option Callee) → E x x ≡ true) → (old : List (Option Callee)) (callee k : Option Callee) (place : ℕ)
    → slice_get (insert_key E old callee) place ≡ Some k → E callee k ≡ true → Adds old (insert_key E old callee) callee place
added E exact same old callee k place there e = at (list_any (E callee) old) refl where
  here : slice_get (insert_key E old callee) place ≡ Some callee
  here = there ∙ ap Some (sym (exact callee k e))

  at : (b : Bool) → list_any (E callee) old ≡ b → Adds old (insert_key E old callee) callee place
  at true t =
      let is : insert_key E old callee ≡ old = ap (λ b. if b then old else old ++ callee ∷ []) t in
      subst (λ new. Adds old new callee place) (sym is) (added_old old callee place (ap (λ new. slice_get new place) (sym is) ∙ here))
  at false t =
      let is : insert_key E old callee ≡ old ++ callee ∷ [] = ap (λ b. if b then old else old ++ callee ∷ []) t in
      subst (λ new. Adds old new callee place) (sym is) (added_new old callee place (not_met E same old callee t) (ap (λ new. slice_get new place) (sym is) ∙ here))

pub none_shared : AreShared [] [] []
none_shared = record {
  each = tt;
  apart = record { each = λ i j x e f. absurd cc };
  only = λ x h. h;
}

-- one more call
pub shared_on : (called callees more : List (Option Callee)) (places : List ℕ) (i place : ℕ) (callee : Option Callee) → i < length called → callee ≡ get_or called i callee
    → AreShared (take i called) callees places → Adds callees more callee place → AreShared (take (i + 1) called) more (places ++ place ∷ [])
shared_on called callees more places i place callee l e h a = record {
  each = zip_on (IsPlaceOf more) called places i callee place l e (zip_weaken (IsPlaceOf callees) (IsPlaceOf more) (λ x p there. a.kept p x there) (take i called) places h.each) a.there;
  apart = a.apart h.apart;
  only = λ x there. subst (λ xs. Contains xs x) (sym (take_more called i callee l ∙ ap (λ z. take i called ++ z ∷ []) (sym e))) (only x (a.only x there));
} where
  only : (x : Option Callee) → Contains callees x ⊎ (x ≡ callee) → Contains (take i called ++ callee ∷ []) x
  only x (inl there) =
      let at = h.only x there in
      (at.0, omega (arith, at.1, length-append (take i called) (callee ∷ [])), get_or_append_left (take i called) (callee ∷ []) x at.0 at.1 ∙ at.2)
  only x (inr same) = (length (take i called), omega (arith, length-append (take i called) (callee ∷ [])), get_or-append_seam (take i called) callee [] x ∙ sym same)

-- what holds of all that sites call holds of each once
pub shared_all : (P : Option Callee → Type 0) (called callees : List (Option Callee)) (places : List ℕ) → AreShared called callees places → All P called → All P callees
shared_all P called callees places s all k d l = All-contains P called (get_or callees k d) all (s.only (get_or callees k d) (Contains-get_or callees k d l))
