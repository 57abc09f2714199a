-- Members where their classes declare them.
use Rattle.std.proofs.Common.{◌≡◌, ℕ, zero, suc, ◌+◌, Bool, true, false, ◌||◌, cond, List, [], ◌∷◌, get_or, map, Option, Some, None, refl, sym, ap, subst, ◌∙◌, arith, inl, inr}
use Rattle.std.specs.Prelude.{slice_get, option_map}
use Rattle.std.specs.List.{list_any, find}
use Rattle.std.specs.Option.{option_map_or}
use Rattle.std.specs.Ordering.{is_eq}
use Rattle.std.proofs.lemmas.Bool.{cases_Bool}
use Rattle.std.proofs.lemmas.Option.{slice_get-map, same_Some}
use Rattle.wf_data.specs.declared.class_info.ClassInfo.{ClassInfo}
use Rattle.wf_grammar.specs.ClassFile.{Key}
use Rattle.wf_classes.specs.Members.{key_cmp, rank, member_of, IsMemberAt, HaveKeysOfTheirOwn, offset}
use Rattle.wf_classes.proofs.Tables.{same_key}
use Rattle.std.proofs.lemmas.Cmp.{tied_itself}
use Rattle.wf_classes.proofs.OneMember.{total, is_in, in_is, one_member, is_equal, eq_is}

-- the members of a class, where it is there
abbrev pub at_class : {X : Type 0} → (ClassInfo → List X) → List ClassInfo → ℕ → List X
at_class members classes c = option_map_or members (slice_get classes c) []

-- the keys of all
abbrev pub all_keys : {X : Type 0} → (X → Key) → (ClassInfo → List X) → List ClassInfo → List (List Key)
all_keys key members classes = map (λ (k : ClassInfo). map key (members k)) classes

pub keys_of : {X : Type 0} (key : X → Key) (members : ClassInfo → List X) (classes : List ClassInfo) (c : ℕ) → get_or (all_keys key members classes) c [] ≡ map key (at_class members classes c)
keys_of key members [] c = refl
keys_of key members (k ∷ classes) zero = refl
keys_of key members (k ∷ classes) (suc c) = keys_of key members classes c

-- the member at a place, by a number
pub record IsThere {X : Type 0} (key : X → Key) (members : ClassInfo → List X) (classes : List ClassInfo) (n c i : ℕ) : Type 0 where
  pub member : X
  pub there : slice_get (at_class members classes c) i ≡ Some member
  pub number : member_of (all_keys key members classes) c (key member) ≡ Some n

pub is_there : {X : Type 0} (key : X → Key) (members : ClassInfo → List X) (classes : List ClassInfo) (n c i : ℕ) → IsMemberAt (all_keys key members classes) n c i → IsThere key members classes n c i
is_there {X} key members classes n c i h = go (slice_get (at_class members classes c) i) refl (sym (slice_get-map key (at_class members classes c) i) ∙ sym (ap (λ (xs : List Key). slice_get xs i) (keys_of key members classes c)) ∙ h.there) where
  go : (o : Option X) → slice_get (at_class members classes c) i ≡ o → option_map key o ≡ Some h.key → IsThere key members classes n c i
  go None e f = absurd cc
  go (Some x) e f = record { member = x; there = e; number = ap (member_of (all_keys key members classes) c) (same_Some _ _ f) ∙ in_is (all_keys key members classes) n c i h.key h.there h.number }

find_is : {X : Type 0} (p : X → Bool) (xs : List X) (i : ℕ) (x : X) → slice_get xs i ≡ Some x → p x ≡ true → ((j : ℕ) (y : X) → slice_get xs j ≡ Some y → p y ≡ true → j ≡ i) → find p xs ≡ Some x
find_is p [] i x e t one = absurd cc
find_is p (y ∷ xs) zero x e t one = (let same : y ≡ x = cc in rw (ap p same ∙ t) e)
find_is {X} p (y ∷ xs) (suc i) x e t one = elim (cases_Bool (p y)) [
  | inl s ↦ absurd (let z = one 0 y refl s in omega arith)
  | inr f ↦ rw f (find_is p xs i x e t (λ j z g s. (let m = one (suc j) z g s in omega arith)))
]

find_none : {X : Type 0} (key : X → Key) (p : Key → Bool) (xs : List X) → list_any p (map key xs) ≡ false → find (λ x. p (key x)) xs ≡ None
find_none key p [] e = refl
find_none key p (x ∷ xs) e = elim (cases_Bool (p (key x))) [
  | inl s ↦ absurd (let t : (p (key x) || list_any p (map key xs)) ≡ true = rw s refl in cc)
  | inr f ↦ rw f (find_none key p xs (sym (ap (λ b. b || list_any p (map key xs)) f) ∙ e))
]

-- the member that a class declares under a key is the one of its number
pub found : {X : Type 0} (key : X → Key) (members : ClassInfo → List X) (classes : List ClassInfo) (n c d i : ℕ) (q : Key) (x : X) → HaveKeysOfTheirOwn (all_keys key members classes) → member_of (all_keys key members classes) c q ≡ Some n → slice_get (at_class members classes d) i ≡ Some x → member_of (all_keys key members classes) d (key x) ≡ Some n → find (λ y. is_eq (key_cmp (key y) q)) (at_class members classes c) ≡ Some x
found {X} key members classes n c d i q x own e there f =
    let keys = all_keys key members classes in
    let one = one_member keys n c d q (key x) (is_in keys n c q e) (is_in keys n d (key x) f) in
    subst (λ b. find (λ y. is_eq (key_cmp (key y) q)) (at_class members classes b) ≡ Some x) (sym one.0)
    (find_is (λ y. is_eq (key_cmp (key y) q)) (at_class members classes d) i x there (eq_is _ (ap (key_cmp (key x)) one.1 ∙ tied_itself total (key x))) (λ j y g t.
    own.apart d j i q (at j y g ∙ ap (λ k. Some k) (same_key (key y) q (is_equal _ t))) (at i x there ∙ ap (λ k. Some k) (sym one.1)))) where
      at : (j : ℕ) (y : X) → slice_get (at_class members classes d) j ≡ Some y → slice_get (get_or (all_keys key members classes) d []) j ≡ Some (key y)
      at j y g = ap (λ (ks : List Key). slice_get ks j) (keys_of key members classes d) ∙ slice_get-map key (at_class members classes d) j ∙ ap (option_map key) g

pub not_found : {X : Type 0} (key : X → Key) (members : ClassInfo → List X) (classes : List ClassInfo) (c : ℕ) (q : Key) → member_of (all_keys key members classes) c q ≡ None → find (λ y. is_eq (key_cmp (key y) q)) (at_class members classes c) ≡ None
not_found key members classes c q e = find_none key (λ k. is_eq (key_cmp k q)) (at_class members classes c) (ap (list_any (λ k. is_eq (key_cmp k q))) (sym (keys_of key members classes c)) ∙ go (list_any (λ k. is_eq (key_cmp k q)) (get_or (all_keys key members classes) c [])) refl e) where
  go : (b : Bool) → list_any (λ k. is_eq (key_cmp k q)) (get_or (all_keys key members classes) c []) ≡ b → option_map (λ r. offset (all_keys key members classes) c + r) (cond b (Some (rank (get_or (all_keys key members classes) c []) q)) None) ≡ None → list_any (λ k. is_eq (key_cmp k q)) (get_or (all_keys key members classes) c []) ≡ false
  go false is e = is
  go true is e = absurd cc

-- the number's own member is the one that is found under the key
pub found_own : {X : Type 0} (key : X → Key) (members : ClassInfo → List X) (classes : List ClassInfo) (n c d : ℕ) (q : Key) (x : X) → member_of (all_keys key members classes) c q ≡ Some n → find (λ y. is_eq (key_cmp (key y) (key x))) (at_class members classes d) ≡ Some x → member_of (all_keys key members classes) d (key x) ≡ Some n → find (λ y. is_eq (key_cmp (key y) q)) (at_class members classes c) ≡ Some x
found_own {X} key members classes n c d q x e there f =
    let keys = all_keys key members classes in
    let one = one_member keys n c d q (key x) (is_in keys n c q e) (is_in keys n d (key x) f) in
    subst (λ b. find (λ y. is_eq (key_cmp (key y) q)) (at_class members classes b) ≡ Some x) (sym one.0)
    (subst (λ k. find (λ y. is_eq (key_cmp (key y) k)) (at_class members classes d) ≡ Some x) (sym one.1) there)
