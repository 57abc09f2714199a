-- The members of classes in the order of their numbers.
use Rattle.std.proofs.Common.{◌≡◌, ℕ, zero, suc, ◌+◌, ◌-◌, ◌<◌, ◌≤◌, Bool, true, false, ◌||◌, cond, List, [], ◌∷◌, ◌++◌, length, get_or, map, take, drop, sum_by, count_by, Option, Some, None, Ordering, refl, sym, ap, subst, ◌∙◌, add-one, arith, inl, inr, ◌⊎◌, IsPermutation}
use Rattle.std.specs.Prelude.{slice_get, option_map}
use Rattle.std.specs.List.{list_any, HoldsAt, IsDistinct}
use Rattle.std.specs.List.Sorted.{IsStrictlySortedBy, IsNonDecreasingBy, IsPartitionPoint}
use Rattle.std.specs.Ordering.{is_lt, is_eq, ordering_index, eq_by_cmp, ordering_reverse, nat_cmp, ordering_then}
use Rattle.std.specs.Cmp.Lexicographic.{slice_cmp}
use Rattle.std.specs.declared.cmp.Ordering.TheVariants.{Less, Equal, Greater}
use Rattle.std.proofs.lemmas.Bool.{cases_lt, cases_eq, cases_Bool}
use Rattle.std.proofs.lemmas.Cmp.{tied_itself, alike_right}
use Rattle.std.proofs.lemmas.List.{map-id, length-map, get_or-map, get_or_append_left, get_or_push, length_push, length-append, take_all, take-append-le, drop-append-le, drop_at, length-take, length-drop, get_or-take, get_or-drop, take-append-drop}
use Rattle.std.proofs.lemmas.List.Sorted.{sum_by-IsPermutation, length_permutation, list_any-IsPermutation}
use Rattle.std.proofs.lemmas.List.Sums.{sum_by-append, sum_by-cons, sum_by_more, get_or-le-sum_by, sum_by-take-le}
use Rattle.std.proofs.lemmas.Map.Keys.{Less-from_sorted, IsDistinct-from_apart}
use Rattle.std.proofs.lemmas.Option.{slice_get_within, slice_get-get_or, get_or_from_slice_get}
use Rattle.wf_data.specs.declared.class_info.ClassInfo.{ClassInfo}
use Rattle.wf_grammar.specs.ClassFile.{Key}
use Rattle.wf_classes.specs.World.{number}
use Rattle.wf_classes.specs.Members.{key_cmp, offset, rank, rank_of, member_of, IsMemberAt, HaveKeysOfTheirOwn}
use Rattle.wf_classes.specs.Links.{key_at, AreClassPlaces, places_of, AreMembers}
use Rattle.wf_classes.specs.KeyedLists.{keyed_key, place_of, IsKeyedList}
use Rattle.wf_classes.specs.declared.members.Keyed.{Keyed}
use Rattle.wf_classes.specs.declared.members.MemberPlace.{MemberPlace}
use Rattle.wf_classes.proofs.KeyLists.{key_cmp_total}
use Rattle.std.proofs.lemmas.List.Sorted.{searchable_from_sorted}
use Rattle.wf_classes.proofs.Search.{ascending_from_sort, sorted_keys}
use Rattle.wf_classes.proofs.OwnNames.{same_text}

-- ---- keys

equal_is : (o : Ordering) → is_eq o ≡ true → o ≡ Equal
equal_is Less e = absurd cc
equal_is Equal e = refl
equal_is Greater e = absurd cc

then_equal : (a b : Ordering) → ordering_then a b ≡ Equal → (a ≡ Equal) × (b ≡ Equal)
then_equal Less b e = absurd cc
then_equal Equal b e = (refl, e)
then_equal Greater b e = absurd cc

-- keys that compare as equal are one
pub same_key : (a b : Key) → key_cmp a b ≡ Equal → a ≡ b
same_key a b e =
    let t = then_equal (slice_cmp nat_cmp a.0 b.0) (slice_cmp nat_cmp a.1 b.1) e in
    pair (same_text a.0 b.0 (ap is_eq t.0)) (same_text a.1 b.1 (ap is_eq t.1)) where
      pair : a.0 ≡ b.0 → a.1 ≡ b.1 → a ≡ b
      pair p q = ap (λ (x : List ℕ). (x, a.1)) p ∙ ap (λ (y : List ℕ). (b.0, y)) q

keys_differ : (keys : List Key) → ((i j : ℕ) (key : Key) → slice_get keys i ≡ Some key → slice_get keys j ≡ Some key → i ≡ j) → IsDistinct (eq_by_cmp key_cmp) keys
keys_differ keys apart = IsDistinct-from_apart (eq_by_cmp key_cmp) keys (λ i j d l m.
    elim (cases_Bool (is_eq (key_cmp (get_or keys i d) (get_or keys j d)))) [
      | inl t ↦ (let same = same_key (get_or keys i d) (get_or keys j d) (equal_is _ t) in
          let one = apart i j (get_or keys i d) (slice_get-get_or keys i d (omega arith)) (slice_get-get_or keys j d m ∙ ap (λ k. Some k) (sym same)) in
          absurd (omega arith))
      | inr f ↦ f
    ])

-- ---- ranks

greater : (a b : Ordering) → a ≡ ordering_reverse b → b ≡ Less → is_lt a ≡ false
greater a b e l = rw (e, l) refl

all_before : {X : Type 0} (p : X → Bool) (xs : List X) → ((k : ℕ) (d : X) → k < length xs → p (get_or xs k d) ≡ true) → count_by p xs ≡ length xs
all_before p [] h = refl
all_before p (x ∷ xs) h =
    let one : cond {A = ℕ} (p x) 1 0 ≡ 1 = ap (λ b. cond {A = ℕ} b 1 0) (h 0 x (omega arith)) in
    omega (arith, sum_by-cons (λ x. cond (p x) 1 0) x xs, one, all_before p xs (λ k d l. h (suc k) d (omega arith)))

none_before : {X : Type 0} (p : X → Bool) (xs : List X) → ((k : ℕ) (d : X) → k < length xs → p (get_or xs k d) ≡ false) → count_by p xs ≡ 0
none_before p [] h = refl
none_before p (x ∷ xs) h =
    let none : cond {A = ℕ} (p x) 1 0 ≡ 0 = ap (λ b. cond {A = ℕ} b 1 0) (h 0 x (omega arith)) in
    omega (arith, sum_by-cons (λ x. cond (p x) 1 0) x xs, none, none_before p xs (λ k d l. h (suc k) d (omega arith)))

-- the rank of the key at a place of keys that ascend
pub rank_at : (keys : List Key) (key : Key) (at : ℕ) → IsStrictlySortedBy key_cmp keys → at < length keys → ((d : Key) → key_cmp (get_or keys at d) key ≡ Equal) → rank keys key ≡ at
rank_at keys key at up l same =
    let p = λ (k : Key). is_lt (key_cmp k key) in
    let front : count_by p (take at keys) ≡ length (take at keys) = all_before p (take at keys) (λ k d m.
    (let short : k < at = omega (arith, m, length-take at keys) in
    ap p (get_or-take at keys k d short) ∙ ap is_lt (sym (alike_right key_cmp_total (get_or keys at d) key (get_or keys k d) (same d)) ∙ Less-from_sorted key_cmp keys k at d up short l))) in
    let back : count_by p (drop at keys) ≡ 0 = none_before p (drop at keys) (λ k d m.
    (let inside : at + k < length keys = omega (arith, m, length-drop at keys) in
    ap p (get_or-drop at keys k d) ∙ not_before k d inside (cases_eq k 0))) in
    let parts = sum_by-append (λ k. cond (p k) 1 0) (take at keys) (drop at keys) in
    ap (count_by p) (sym (take-append-drop at keys)) ∙ omega (arith, parts, front, back, length-take at keys) where
      not_before : (k : ℕ) (d : Key) → at + k < length keys → (k ≡ 0) ⊎ (k ≡ 0 → ⊥) → is_lt (key_cmp (get_or keys (at + k) d) key) ≡ false
      not_before k d inside (inl e) = ap (λ n. is_lt (key_cmp (get_or keys n d) key)) (omega (arith, e)) ∙ ap is_lt (same d)
      not_before k d inside (inr n) =
          let less = Less-from_sorted key_cmp keys at (at + k) d up (omega (arith, n)) inside in
          let flipped : key_cmp key (get_or keys (at + k) d) ≡ Less = sym (key_cmp_total.congr (get_or keys at d) key (get_or keys (at + k) d) (same d)) ∙ less in
          greater (key_cmp (get_or keys (at + k) d) key) (key_cmp key (get_or keys (at + k) d)) (key_cmp_total.antisymm (get_or keys (at + k) d) key) flipped

any_at : (p : Key → Bool) (keys : List Key) (at : ℕ) (d : Key) → at < length keys → p (get_or keys at d) ≡ true → list_any p keys ≡ true
any_at p [] at d l e = absurd (omega arith)
any_at p (k ∷ keys) zero d l e = rw e refl
any_at p (k ∷ keys) (suc at) d l e = rw (any_at p keys at d (omega arith) e) (or_true (p k)) where
  or_true : (b : Bool) → (b || true) ≡ true
  or_true true = refl
  or_true false = refl

any_none : (p : Key → Bool) (keys : List Key) → ((k : ℕ) (d : Key) → k < length keys → p (get_or keys k d) ≡ false) → list_any p keys ≡ false
any_none p [] h = refl
any_none p (k ∷ keys) h = rw (h 0 k (omega arith), any_none p keys (λ n d l. h (suc n) d (omega arith))) refl

rank_moved : (keys sorted : List Key) (key : Key) → IsPermutation keys sorted → rank keys key ≡ rank sorted key
rank_moved keys sorted key moved = sym (sum_by-IsPermutation (λ k. cond (is_lt (key_cmp k key)) 1 0) keys sorted moved)

-- a key that was found among keys that were moved into order
pub rank_found : (keys sorted : List Key) (key : Key) (at : ℕ) → IsPermutation keys sorted → IsStrictlySortedBy key_cmp sorted → at < length sorted → ((d : Key) → key_cmp (get_or sorted at d) key ≡ Equal) → rank_of keys key ≡ Some at
rank_found keys sorted key at moved up l same =
    let there : list_any (λ k. is_eq (key_cmp k key)) keys ≡ true =
    list_any-IsPermutation (λ k. is_eq (key_cmp k key)) keys sorted moved ∙ any_at (λ k. is_eq (key_cmp k key)) sorted at key l (ap is_eq (same key)) in
    let ranked : rank keys key ≡ at = rank_moved keys sorted key moved ∙ rank_at sorted key at up l same in
    rw (there, ranked) refl

-- ---- the members of one class

pub place_key : (keys : List Key) (c : ℕ) (sorted : List Keyed) → ((x : ℕ) (k : Keyed) → slice_get sorted x ≡ Some k → slice_get keys k.index ≡ Some (keyed_key k)) → map (key_at keys) (map (place_of c) sorted) ≡ map keyed_key sorted
place_key keys c [] h = refl
place_key keys c (k ∷ sorted) h =
    ap (λ x. x ∷ map (key_at keys) (map (place_of c) sorted)) (get_or_from_slice_get keys k.index (keyed_key k) ([], []) (h 0 k refl))
    ∙ ap (λ xs. keyed_key k ∷ xs) (place_key keys c sorted (λ x j e. h (suc x) j e))

pub class_places : (keys : List Key) (c : ℕ) (sorted : List Keyed) → ((i j : ℕ) (key : Key) → slice_get keys i ≡ Some key → slice_get keys j ≡ Some key → i ≡ j) → IsKeyedList keys sorted → AreClassPlaces keys c (map (place_of c) sorted)
class_places keys c sorted apart h =
    let same = place_key keys c sorted h.each in
    let up : IsStrictlySortedBy key_cmp (map keyed_key sorted) =
    subst (λ (xs : List Key). IsStrictlySortedBy key_cmp xs) (map-id (map keyed_key sorted))
    (ascending_from_sort key_cmp_total (λ (k : Key). k) keys (map keyed_key sorted) h.moved (subst (λ (xs : List Key). IsDistinct (eq_by_cmp key_cmp) xs) (sym (map-id keys)) (keys_differ keys apart)) h.in_order) in
    record {
      class = λ x p e. (let k = from_map sorted x p e in sym (ap (λ (q : MemberPlace). number q.class) k.1));
      inside = λ x p e. (let k = from_map sorted x p e in subst (λ (q : MemberPlace). q.index < length keys) k.1 (slice_get_within keys k.0.index (keyed_key k.0) (h.each x k.0 k.2)));
      moved = subst (λ (xs : List Key). IsPermutation keys xs) (sym same) h.moved;
      ascending = subst (λ (xs : List Key). IsStrictlySortedBy key_cmp xs) (sym same) up;
    } where
      from_map : (ks : List Keyed) (x : ℕ) (p : MemberPlace) → slice_get (map (place_of c) ks) x ≡ Some p → (k : Keyed) × (place_of c k ≡ p) × (slice_get ks x ≡ Some k)
      from_map [] x p e = absurd cc
      from_map (k ∷ ks) zero p e = (k, cc, refl)
      from_map (k ∷ ks) (suc x) p e = from_map ks x p e

-- ---- the members of all classes

pub members_none : (keys : List (List Key)) → AreMembers keys 0 [] []
members_none keys = record { firsts = refl; first_is = λ c l. absurd (omega arith); count = refl; each = λ c l. absurd (omega arith) }

pub offset_more : (keys : List (List Key)) (c : ℕ) → c < length keys → offset keys (c + 1) ≡ offset keys c + length (get_or keys c [])
offset_more keys c l = sum_by_more length keys c [] l

pub offset_rises : (keys : List (List Key)) (c d : ℕ) → c < d → c < length keys → offset keys c + length (get_or keys c []) ≤ offset keys d
offset_rises keys c zero l m = absurd (omega arith)
offset_rises keys c (suc d) l m =
    elim (cases_lt c d) [
      | inl a ↦ (let r = offset_rises keys c d a m in omega (arith, r, upto d))
      | inr b ↦ (let same : c ≡ d = omega arith in
          subst (λ e. offset keys c + length (get_or keys c []) ≤ offset keys (suc e)) same (omega (arith, offset_more keys c m, ap (offset keys) (add-one c))))
    ] where
      upto : (d : ℕ) → offset keys d ≤ offset keys (suc d)
      upto d = elim (cases_lt d (length keys)) [
        | inl a ↦ omega (arith, offset_more keys d a, ap (offset keys) (add-one d))
        | inr b ↦ omega (arith, ap (λ xs. sum_by length xs) (take_all d keys b), ap (λ xs. sum_by length xs) (take_all (suc d) keys (omega arith)))
      ]

pub members_more : (keys : List (List Key)) (c : ℕ) (first : List ℕ) (places : List MemberPlace) (sorted : List Keyed) → HaveKeysOfTheirOwn keys → c < length keys → IsKeyedList (get_or keys c []) sorted → AreMembers keys c first places → AreMembers keys (c + 1) (first ++ length places ∷ []) (places ++ map (place_of c) sorted)
members_more keys c first places sorted own l list h =
    let new = map (place_of c) sorted in
    let mine = get_or keys c [] in
    let size : length new ≡ length mine = length-map sorted (place_of c) ∙ sym (length-map sorted keyed_key) ∙ length_permutation mine (map keyed_key sorted) list.moved in
    record {
      firsts = length_push first (length places) ∙ ap (λ n. n + 1) h.firsts;
      first_is = λ d m. elim (cases_lt d c) [
        | inl a ↦ get_or_append_left first (length places ∷ []) 0 d (omega (arith, h.firsts)) ∙ h.first_is d a
        | inr b ↦ (let same : d ≡ c = omega arith in get_or_push first (length places) 0 d (h.firsts ∙ sym same) ∙ h.count ∙ ap (offset keys) (sym same))
      ];
      count = length-append places new ∙ omega (arith, h.count, size, offset_more keys c l);
      each = λ d m. elim (cases_lt d c) [
        | inl a ↦
            (let rises = offset_rises keys d c a (omega arith) in
            let low : offset keys d ≤ length places = omega (arith, h.count, rises) in
            let short : length (get_or keys d []) ≤ length (drop (offset keys d) places) = omega (arith, h.count, rises, length-drop (offset keys d) places) in
            let same : places_of keys (places ++ new) d ≡ places_of keys places d =
            ap (take (length (get_or keys d []))) (drop-append-le (offset keys d) places new low) ∙ take-append-le (length (get_or keys d [])) (drop (offset keys d) places) new short in
            subst (λ (ps : List MemberPlace). AreClassPlaces (get_or keys d []) d ps) (sym same) (h.each d a))
        | inr b ↦
            (let here : d ≡ c = omega arith in
            let same : places_of keys (places ++ new) c ≡ new =
            ap (take (length mine)) (drop_at places new (offset keys c) h.count) ∙ take_all (length mine) new (omega (arith, size)) in
            subst (λ e. AreClassPlaces (get_or keys e []) e (places_of keys (places ++ new) e)) (sym here)
            (subst (λ (ps : List MemberPlace). AreClassPlaces mine c ps) (sym same) (class_places mine c sorted (λ i j k e f. own.apart c i j k e f) list)))
      ];
    }

-- ---- a search in one class

abbrev no_member : MemberPlace
no_member = record { class = record { 0 = 0 }; index = 0 }

pub found_in_class : (keys : List Key) (c : ℕ) (places : List MemberPlace) (key : Key) (at : ℕ) → AreClassPlaces keys c places → at < length places → HoldsAt (λ p. key_cmp (key_at keys p) key ≡ Equal) places at → rank_of keys key ≡ Some at
found_in_class keys c places key at h l here =
    let size = length-map places (key_at keys) in
    rank_found keys (map (key_at keys) places) key at h.moved h.ascending (omega (arith, size))
    (λ d. ap (λ k. key_cmp k key) (get_or-map (key_at keys) places at no_member d l) ∙ here no_member)

pub none_in_class : (keys : List Key) (c : ℕ) (places : List MemberPlace) (key : Key) (i : ℕ) → AreClassPlaces keys c places → (IsNonDecreasingBy (λ p. ordering_index (key_cmp (key_at keys p) key)) places → IsPartitionPoint (λ p. key_cmp (key_at keys p) key ≡ Less) (λ p. key_cmp (key_at keys p) key ≡ Greater) places i) → rank_of keys key ≡ None
none_in_class keys c places key i h split =
    let size = length-map places (key_at keys) in
    let point = split (searchable_from_sorted key_cmp_total (key_at keys) places key (sorted_keys key_cmp_total (key_at keys) places h.ascending)) in
    let none : list_any (λ k. is_eq (key_cmp k key)) keys ≡ false =
    list_any-IsPermutation (λ k. is_eq (key_cmp k key)) keys (map (key_at keys) places) h.moved ∙ any_none (λ k. is_eq (key_cmp k key)) (map (key_at keys) places) (λ k d l.
    (let short : k < length places = omega (arith, l, size) in
    ap (λ q. is_eq (key_cmp q key)) (get_or-map (key_at keys) places k no_member d short) ∙
    elim (cases_lt k i) [ inl b ↦ ap is_eq (point.0 k no_member (omega arith) b) | inr a ↦ ap is_eq (point.1 k no_member a short) ])) in
    rw none refl

-- ---- the keys of one class

pub keys_at : {X : Type 0} (key : X → Key) (members : ClassInfo → List X) (classes : List ClassInfo) (c : ℕ) (k : ClassInfo) → slice_get classes c ≡ Some k → get_or (map (λ (k : ClassInfo). map key (members k)) classes) c [] ≡ map key (members k)
keys_at key members classes c k e =
    get_or-map (λ (k : ClassInfo). map key (members k)) classes c k [] (slice_get_within classes c k e) ∙ ap (λ (k : ClassInfo). map key (members k)) (get_or_from_slice_get classes c k k e)

pub keys_fit : (keys : List (List Key)) (c : ℕ) → c < length keys → length (get_or keys c []) ≤ sum_by length keys
keys_fit keys c l = get_or-le-sum_by length keys c [] l

pub offset_within : (keys : List (List Key)) (c : ℕ) → offset keys c ≤ sum_by length keys
offset_within keys c = sum_by-take-le length keys c

-- ---- the members of one class among those of all

pub record IsInClass (keys : List (List Key)) (c : ℕ) (first : List ℕ) (places : List MemberPlace) : Type 0 where
  pub start : get_or first c 0 ≡ offset keys c
  pub room : get_or first c 0 + length (get_or keys c []) ≤ length places
  pub are : AreClassPlaces (get_or keys c []) c (take (length (get_or keys c [])) (drop (get_or first c 0) places))
  pub count : length places ≡ sum_by length keys
  pub firsts : length first ≡ length keys

pub in_class : (keys : List (List Key)) (n c : ℕ) (first : List ℕ) (places : List MemberPlace) → length keys ≡ n → c < n → AreMembers keys n first places → IsInClass keys c first places
in_class keys n c first places size l h =
    let start = h.first_is c l in
    let total : length places ≡ sum_by length keys = h.count ∙ ap (λ xs. sum_by length xs) (take_all n keys (omega (arith, size))) in
    record {
      start = start;
      room = omega (arith, start, h.count, offset_rises keys c n l (omega (arith, size)));
      are = subst (λ o. AreClassPlaces (get_or keys c []) c (take (length (get_or keys c [])) (drop o places))) (sym start) (h.each c l);
      count = total;
      firsts = h.firsts ∙ sym size;
    }

-- the class whose members a number falls among
locate : (keys : List (List Key)) (n m : ℕ) → n ≤ length keys → m < offset keys n → (c : ℕ) × (c < n) × (offset keys c ≤ m) × (m < offset keys c + length (get_or keys c []))
locate keys zero m l h = absurd (omega arith)
locate keys (suc n) m l h =
    elim (cases_lt m (offset keys n)) [
      | inl a ↦ (let r = locate keys n m (omega arith) a in (r.0, omega (arith, r.1), r.2, r.3))
      | inr b ↦ (n, omega arith, b, omega (arith, h, offset_more keys n (omega arith), ap (offset keys) (add-one n)))
    ]

pub record IsPlaced (keys : List (List Key)) (m : ℕ) (p : MemberPlace) : Type 0 where
  pub class : number p.class < length keys
  pub member : IsMemberAt keys m (number p.class) p.index

pub place_is : (keys : List (List Key)) (n m : ℕ) (first : List ℕ) (places : List MemberPlace) (p : MemberPlace) → length keys ≡ n → AreMembers keys n first places → slice_get places m ≡ Some p → IsPlaced keys m p
place_is keys n m first places p size h e =
    let inside = slice_get_within places m p e in
    let at = locate keys n m (omega (arith, size)) (omega (arith, h.count)) in
    let c = at.0 in
    let mine = get_or keys c [] in
    let r = m - offset keys c in
    let short : r < length mine = omega (arith, at.2, at.3) in
    let are = h.each c at.1 in
    let low : offset keys c + r ≡ m = omega (arith, at.2) in
    let room : length (places_of keys places c) ≡ length mine =
    omega (arith, length-take (length mine) (drop (offset keys c) places), length-drop (offset keys c) places, h.count, offset_rises keys c n at.1 (omega (arith, size))) in
    let read : get_or (places_of keys places c) r p ≡ p =
    get_or-take (length mine) (drop (offset keys c) places) r p short ∙ get_or-drop (offset keys c) places r p ∙ ap (λ x. get_or places x p) low ∙ get_or_from_slice_get places m p p e in
    let there : slice_get (places_of keys places c) r ≡ Some p = slice_get-get_or (places_of keys places c) r p (omega (arith, room, short)) ∙ ap (λ x. Some x) read in
    let class : number p.class ≡ c = are.class r p there in
    let index = are.inside r p there in
    let key = key_at mine p in
    let sorted = map (key_at mine) (places_of keys places c) in
    let ranked : rank mine key ≡ r = rank_moved mine sorted key are.moved ∙ rank_at sorted key r are.ascending (omega (arith, length-map (places_of keys places c) (key_at mine), room, short))
    (λ d. ap (λ k. key_cmp k key) (get_or-map (key_at mine) (places_of keys places c) r p d (omega (arith, room, short)) ∙ ap (key_at mine) read) ∙ tied_itself key_cmp_total key) in
    record {
      class = omega (arith, class, at.1, size);
      member = subst (λ d. IsMemberAt keys m d p.index) (sym class) (record { key = key; there = slice_get-get_or mine p.index ([], []) index; number = omega (arith, ranked, low) });
    }

pub count_of_keys : {X : Type 0} (key : X → Key) (members : ClassInfo → List X) (classes : List ClassInfo) → sum_by length (map (λ (k : ClassInfo). map key (members k)) classes) ≡ sum_by (λ (k : ClassInfo). length (members k)) classes
count_of_keys key members [] = refl
count_of_keys key members (k ∷ classes) =
    omega (arith, sum_by-cons length (map key (members k)) (map (λ (k : ClassInfo). map key (members k)) classes), sum_by-cons (λ (k : ClassInfo). length (members k)) k classes, length-map (members k) key, count_of_keys key members classes)

-- a search in one class gives the number
pub find_is : (keys : List (List Key)) (c : ℕ) (first : List ℕ) (places : List MemberPlace) (mine : List Key) (slice : List MemberPlace) (count : ℕ) (key : Key) (o : Option ℕ) → IsInClass keys c first places → get_or keys c [] ≡ mine → count ≡ length mine → slice ≡ take count (drop (get_or first c 0) places) → ((d : ℕ) → AreClassPlaces mine d slice → o ≡ rank_of mine key) → option_map (λ r. get_or first c 0 + r) o ≡ member_of keys c key
find_is keys c first places mine slice count key o h own size is search =
    let are : AreClassPlaces mine c slice = subst (λ (ps : List MemberPlace). AreClassPlaces mine c ps) (sym (is ∙ ap (λ n. take n (drop (get_or first c 0) places)) (size ∙ ap length (sym own)))) (subst (λ (ks : List Key). AreClassPlaces ks c (take (length (get_or keys c [])) (drop (get_or first c 0) places))) own h.are) in
    ap (option_map (λ r. get_or first c 0 + r)) (search c are ∙ ap (λ (ks : List Key). rank_of ks key) (sym own)) ∙ ap (λ f. option_map (λ r. f + r) (rank_of (get_or keys c []) key)) h.start
