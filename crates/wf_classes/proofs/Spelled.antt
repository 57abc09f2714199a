-- A class that some bytes spell has each member once.
use Rattle.std.proofs.Common.{◌≡◌, ℕ, zero, suc, ◌<◌, Bool, true, false, ◌||◌, ◌≤◌, ◌⊎◌, List, [], ◌∷◌, ◌++◌, length, map, get_or, Some, refl, sym, ap, subst, ◌∙◌, arith, inl, inr}
use Rattle.std.specs.Prelude.{slice_get}
use Rattle.std.specs.List.{list_any}
use Rattle.std.proofs.lemmas.Bool.{not-true, and_from, both_ways}
use Rattle.std.proofs.lemmas.Bool.{cases_lt}
use Rattle.std.proofs.lemmas.List.{get_or_past, length-map}
use Rattle.std.proofs.lemmas.Slice.Eq.{bytes_eq-Decides}
use Rattle.wf_data.specs.declared.class_info.ClassInfo.{ClassInfo}
use Rattle.wf_data.specs.declared.class_info.FieldInfo.{FieldInfo}
use Rattle.wf_data.specs.declared.class_info.MethodInfo.{MethodInfo}
use Rattle.wf_data.specs.declared.class_info.PoolEntry.{PoolEntry}
use Rattle.wf_bytes.specs.Grammar.{ManyOn}
use Rattle.wf_grammar.specs.ClassFile.{Key, is_key, FieldIs, MethodIs}
use Rattle.wf_grammar.specs.Writing.{HasSpelling}
use Rattle.wf_classes.specs.Members.{method_key, field_key, method_keys, field_keys, HaveKeysOfTheirOwn}
use Rattle.wf_classes.specs.World.{HaveSpellings}
use Rattle.wf_classes.proofs.Tables.{keys_at}
use Rattle.wf_classes.proofs.WaitFacts.{some_place}

any_true : (p : Key → Bool) (keys : List Key) (j : ℕ) (k : Key) → slice_get keys j ≡ Some k → p k ≡ true → list_any p keys ≡ true
any_true p [] j k e t = absurd cc
any_true p (x ∷ keys) zero k e t = (let same : x ≡ k = cc in rw (ap p same ∙ t) refl)
any_true p (x ∷ keys) (suc j) k e t = rw (any_true p keys j k e t) (or_true (p x)) where
  or_true : (b : Bool) → (b || true) ≡ true
  or_true true = refl
  or_true false = refl

-- members with keys that differ from each other and from those that were met
record Fresh {X : Type 0} (key : X → Key) (met : List Key) (xs : List X) : Type 0 where
  pub new : (i j : ℕ) (x : X) (k : Key) → slice_get xs i ≡ Some x → slice_get met j ≡ Some k → key x ≡ k → ⊥
  pub apart : (i j : ℕ) (a b : X) → slice_get xs i ≡ Some a → slice_get xs j ≡ Some b → key a ≡ key b → i ≡ j

-- each piece is of a key that wasn't met, and adds it
record Tells {X : Type 0} (key : X → Key) (G : List Key → List ℕ → X × List Key → Type 0) : Type 0 where
  pub fresh : (met : List Key) (bytes : List ℕ) (x : X × List Key) → G met bytes x → list_any (is_key (key x.0).0 (key x.0).1) met ≡ false
  pub adds : (met : List Key) (bytes : List ℕ) (x : X × List Key) → G met bytes x → x.1 ≡ met ++ key x.0 ∷ []

is_own : (key : Key) → is_key key.0 key.1 key ≡ true
is_own key = and_from _ _ ((bytes_eq-Decides key.0 key.0).1 refl) ((bytes_eq-Decides key.1 key.1).1 refl)

get_left : (xs : List Key) (y k : Key) (c : ℕ) → slice_get xs c ≡ Some k → slice_get (xs ++ y ∷ []) c ≡ Some k
get_left [] y k c e = absurd cc
get_left (x ∷ xs) y k zero e = e
get_left (x ∷ xs) y k (suc c) e = get_left xs y k c e

get_last : (xs : List Key) (y : Key) → slice_get (xs ++ y ∷ []) (length xs) ≡ Some y
get_last [] y = refl
get_last (x ∷ xs) y = get_last xs y

many_fresh : {X : Type 0} (key : X → Key) (G : List Key → List ℕ → X × List Key → Type 0) → Tells key G → (n : ℕ) (met : List Key) (bytes : List ℕ) (r : List X × List Key) → ManyOn G n met bytes r → Fresh key met r.0
many_fresh {X} key G t zero met bytes r h = subst (Fresh key met) (sym (ap (λ (p : List X × List Key). p.0) h.same)) (record { new = λ i j x k e f s. absurd cc; apart = λ i j a b e f s. absurd cc })
many_fresh {X} key G t (suc n) met bytes r h =
    let x = h.value in
    let xs = h.back.value in
    let added = t.adds met h.first x h.front in
    let rest = subst (λ (m : List Key). Fresh key m xs.0) added (many_fresh key G t n x.1 h.back.first xs h.back.front) in
    let fresh = t.fresh met h.first x h.front in
    subst (Fresh key met) (sym (ap (λ (p : List X × List Key). p.0) h.back.back.same)) (record {
      new = λ i j a k e f s. not_met x.0 xs.0 i j a k e f s fresh rest;
      apart = λ i j a b e f s. each_once x.0 xs.0 i j a b e f s rest;
    }) where
      not_met : (x : X) (xs : List X) (i j : ℕ) (a : X) (k : Key) → slice_get (x ∷ xs) i ≡ Some a → slice_get met j ≡ Some k → key a ≡ k → list_any (is_key (key x).0 (key x).1) met ≡ false → Fresh key (met ++ key x ∷ []) xs → ⊥
      not_met x xs zero j a k e f s fresh rest =
          let same : x ≡ a = cc in
          let is : key x ≡ k = ap key same ∙ s in
          both_ways _ fresh (any_true (is_key (key x).0 (key x).1) met j k f (subst (λ q. is_key (key x).0 (key x).1 q ≡ true) is (is_own (key x))))
      not_met x xs (suc i) j a k e f s fresh rest = rest.new i j a k e (get_left met (key x) k j f) s

      each_once : (x : X) (xs : List X) (i j : ℕ) (a b : X) → slice_get (x ∷ xs) i ≡ Some a → slice_get (x ∷ xs) j ≡ Some b → key a ≡ key b → Fresh key (met ++ key x ∷ []) xs → i ≡ j
      each_once x xs zero zero a b e f s rest = refl
      each_once x xs zero (suc j) a b e f s rest = (let same : x ≡ a = cc in absurd (rest.new j (length met) b (key x) f (get_last met (key x)) (sym s ∙ sym (ap key same))))
      each_once x xs (suc i) zero a b e f s rest = (let same : x ≡ b = cc in absurd (rest.new i (length met) a (key x) e (get_last met (key x)) (s ∙ sym (ap key same))))
      each_once x xs (suc i) (suc j) a b e f s rest = ap (λ n. suc n) (rest.apart i j a b e f s)

methods_tell : (pool : List PoolEntry) → Tells method_key (MethodIs pool)
methods_tell pool = record {
  fresh = λ met bytes x h.
      let a = h.back.back.rest.rest.back.rest.rest in
      subst (λ (m : MethodInfo × List Key). list_any (is_key m.0.name m.0.desc) met ≡ false) (sym a.rest.back.rest.same) (not-true _ a.holds);
  adds = λ met bytes x h.
      let a = h.back.back.rest.rest.back.rest.rest in
      subst (λ (m : MethodInfo × List Key). m.1 ≡ met ++ method_key m.0 ∷ []) (sym a.rest.back.rest.same) refl;
}

fields_tell : (pool : List PoolEntry) → Tells field_key (FieldIs pool)
fields_tell pool = record {
  fresh = λ met bytes x h.
      let a = h.back.back.rest.rest.back.rest.rest in
      subst (λ (m : FieldInfo × List Key). list_any (is_key m.0.name m.0.desc) met ≡ false) (sym a.rest.back.same) (not-true _ a.holds);
  adds = λ met bytes x h.
      let a = h.back.back.rest.rest.back.rest.rest in
      subst (λ (m : FieldInfo × List Key). m.1 ≡ met ++ field_key m.0 ∷ []) (sym a.rest.back.same) refl;
}

-- the fields of a class that is spelled, and its methods
fields_fresh : (k : ClassInfo) → HasSpelling k → Fresh field_key [] k.fields
fields_fresh k h =
    let body = h.spelled.back.rest.back.back.rest.back in
    let members = body.back.back.rest.back.back.back in
    subst (λ (c : ClassInfo). Fresh field_key [] c.fields) (sym members.back.back.back.back.same)
    (many_fresh field_key (FieldIs h.spelled.back.rest.back.back.rest.value) (fields_tell _) _ [] members.first members.value members.front)

methods_fresh : (k : ClassInfo) → HasSpelling k → Fresh method_key [] k.methods
methods_fresh k h =
    let body = h.spelled.back.rest.back.back.rest.back in
    let members = body.back.back.rest.back.back.back.back.back in
    subst (λ (c : ClassInfo). Fresh method_key [] c.methods) (sym members.back.back.same)
    (many_fresh method_key (MethodIs h.spelled.back.rest.back.back.rest.value) (methods_tell _) _ [] members.first members.value members.front)

from_map : {X : Type 0} (key : X → Key) (xs : List X) (i : ℕ) (k : Key) → slice_get (map key xs) i ≡ Some k → (x : X) × (slice_get xs i ≡ Some x) × (key x ≡ k)
from_map key [] i k e = absurd cc
from_map key (x ∷ xs) zero k e = (x, refl, cc)
from_map key (x ∷ xs) (suc i) k e = from_map key xs i k e

no_key : (i : ℕ) (k : Key) → slice_get {X = Key} [] i ≡ Some k → ⊥
no_key i k e = cc

-- the keys of members that are apart
keys_apart : {X : Type 0} (key : X → Key) (members : ClassInfo → List X) (classes : List ClassInfo) → ((c : ℕ) (k : ClassInfo) → slice_get classes c ≡ Some k → Fresh key [] (members k)) → HaveKeysOfTheirOwn (map (λ (k : ClassInfo). map key (members k)) classes)
keys_apart key members classes h = record {
  apart = λ c i j k e f. go c (cases_lt c (length classes)) i j k e f;
} where
  go : (c : ℕ) → (c < length classes) ⊎ (length classes ≤ c) → (i j : ℕ) (k : Key) → slice_get (get_or (map (λ (k : ClassInfo). map key (members k)) classes) c []) i ≡ Some k → slice_get (get_or (map (λ (k : ClassInfo). map key (members k)) classes) c []) j ≡ Some k → i ≡ j
  go c (inl l) i j k e f =
      let a = some_place classes c l in
      let own = keys_at key members classes c a.0 a.1 in
      let at = λ (i : ℕ) (e : slice_get (get_or (map (λ (k : ClassInfo). map key (members k)) classes) c []) i ≡ Some k). from_map key (members a.0) i k (sym (ap (λ (xs : List Key). slice_get xs i) own) ∙ e) in
      let x = at i e in
      let y = at j f in
      (h c a.0 a.1).apart i j x.0 y.0 x.1 y.1 (x.2 ∙ sym y.2)
  go c (inr o) i j k e f = absurd (no_key i k (ap (λ (xs : List Key). slice_get xs i) (sym (get_or_past (map (λ (k : ClassInfo). map key (members k)) classes) c [] (omega (arith, o, length-map classes (λ (k : ClassInfo). map key (members k)))))) ∙ e))

-- no class that has a spelling has two methods, or two fields, of one name and descriptor
pub methods_apart : (classes : List ClassInfo) → HaveSpellings classes → HaveKeysOfTheirOwn (method_keys classes)
methods_apart classes h = keys_apart method_key (λ (k : ClassInfo). k.methods) classes (λ c k e. methods_fresh k (h.each c k e))

pub fields_apart : (classes : List ClassInfo) → HaveSpellings classes → HaveKeysOfTheirOwn (field_keys classes)
fields_apart classes h = keys_apart field_key (λ (k : ClassInfo). k.fields) classes (λ c k e. fields_fresh k (h.each c k e))
