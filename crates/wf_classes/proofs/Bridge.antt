-- What the worklist leaves are the loadable classes.
use Rattle.std.proofs.Common.{◌≡◌, ℕ, zero, suc, ◌+◌, ◌<◌, Bool, true, false, cond, not, eqb, List, [], ◌∷◌, ◌++◌, length, get_or, take, Option, Some, None, refl, sym, ap, subst, ◌∙◌, arith, inl, inr}
use Rattle.std.specs.Prelude.{slice_get, Contains}
use Rattle.std.specs.List.{flat_map}
use Rattle.std.specs.Option.{is_none, option_map_or}
use Rattle.std.proofs.lemmas.Bool.{eq-eqb, eqb-true, and_parts, and_from, not-true}
use Rattle.std.proofs.lemmas.List.{get_or-map, length-map, get_or-take, length-take}
use Rattle.std.proofs.lemmas.List.Sorted.{sum_by-IsPermutation, Contains-permutation, IsPermutation-sym}
use Rattle.std.proofs.lemmas.Option.{slice_get_within, get_or_from_slice_get}
use Rattle.std.proofs.lemmas.Slice.Eq.{bytes_eq-Decides}
use Rattle.wf_data.specs.Flags.{is_interface}
use Rattle.wf_data.specs.declared.class_info.ClassInfo.{ClassInfo}
use Rattle.wf_names.specs.Names.{object_name}
use Rattle.wf_classes.specs.World.{Names, Loadable, object, below, IsAscending, names_of}
use Rattle.wf_classes.specs.declared.waits.Wait.{Wait}
use Rattle.wf_classes.specs.Closing.{class_of_kind, wait_for, waits_at, waits_upto, is_root, wanted, count_of, is_in, AreWaits, AreInside, AreCounted, IsReleased}
use Rattle.wf_classes.proofs.WaitFacts.{IsAt, Found, Resolves, wait, contains_from_get, at_from_contains, some_place, found_is, is_found, found_from_names, names_from_found, one_place, waits_full, full_waits, waits_at_most, wait_from, has_superclass, has_interface, count_at, wait_of_class, class_has_wait}
use Rattle.wf_classes.proofs.Worklist.{place_of}

-- ---- the waits of some classes, sorted

pub waits_counted : (files : List ClassInfo) (start : List ℕ) (waits : List Wait) → AreWaits files start waits → (i : ℕ) (k : ClassInfo) → slice_get files i ≡ Some k → count_of waits i ≡ length (waits_at files i k)
waits_counted files start waits h i k e =
    sum_by-IsPermutation (λ (w : Wait). cond (eqb w.below i) 1 0) (waits_upto files (length files)) waits h.all ∙ count_at files (length files) i k (slice_get_within files i k e) e

pub waits_started : (files : List ClassInfo) (start : List ℕ) (waits : List Wait) → AreWaits files start waits → (i : ℕ) (k : ClassInfo) → slice_get files i ≡ Some k → get_or start i 0 ≡ wanted k
waits_started files start waits h i k e =
    ap (λ (xs : List ℕ). get_or xs i 0) h.starts ∙ get_or-map wanted files i k 0 (slice_get_within files i k e) ∙ ap wanted (get_or_from_slice_get files i k k e)

pub wait_there : (files : List ClassInfo) (start : List ℕ) (waits : List Wait) → AreWaits files start waits → (x : ℕ) (w : Wait) → slice_get waits x ≡ Some w → (k : ClassInfo) × (w.below < length files) × (slice_get files w.below ≡ Some k) × Contains (waits_at files w.below k) w
wait_there files start waits h x w e =
    wait_of_class files (length files) w (Contains-permutation waits (waits_upto files (length files)) w (IsPermutation-sym _ _ h.all) (contains_from_get waits x w e))

pub there_is_wait : (files : List ClassInfo) (start : List ℕ) (waits : List Wait) → AreWaits files start waits → (i : ℕ) (k : ClassInfo) (w : Wait) → slice_get files i ≡ Some k → Contains (waits_at files i k) w → IsAt waits w
there_is_wait files start waits h i k w e c =
    at_from_contains waits w (Contains-permutation (waits_upto files (length files)) waits w h.all (class_has_wait files (length files) i k w (slice_get_within files i k e) e c))

-- the class above a wait
pub above_is : (files : List ClassInfo) (i : ℕ) (k : ClassInfo) (w : Wait) → Contains (waits_at files i k) w → (b : Bool) × (name : List ℕ) × Found files b name w.above
above_is files i k w c =
    elim (wait_from files i k w c) [
      | inl a ↦ (false, a.0, found_is files false a.0 w.above a.2.above)
      | inr b ↦ (true, b.1, found_is files true b.1 w.above b.3.above)
    ]

pub waits_inside : (files : List ClassInfo) (start : List ℕ) (waits : List Wait) → AreWaits files start waits → AreInside (length files) waits
waits_inside files start waits h = record {
  above = λ x w e. (let t = wait_there files start waits h x w e in let f = above_is files w.below t.0 w t.3 in slice_get_within files w.above f.2.class f.2.there);
  below = λ x w e. (let t = wait_there files start waits h x w e in t.1);
}

-- no class has more waits than it wants
pub waits_within : (files : List ClassInfo) (start : List ℕ) (waits : List Wait) → AreWaits files start waits → AreCounted start waits
waits_within files start waits h = record {
  each = λ i l.
      let size : length start ≡ length files = ap length h.starts ∙ length-map files wanted in
      let k = some_place files i (omega arith) in
      omega (arith, waits_counted files start waits h i k.0 k.1, waits_started files start waits h i k.0 k.1, waits_at_most files i k.0);
}

-- ---- sound

root_is : (files : List ClassInfo) (i : ℕ) (k : ClassInfo) → slice_get files i ≡ Some k → is_root k ≡ true → Loadable files k.name
root_is files i k e r =
    let a = and_parts _ _ r in
    let b = and_parts _ _ a.1 in
    let c = and_parts _ _ b.1 in
    object i k e ((bytes_eq-Decides k.name object_name).0 b.0) (none_is k.superclass a.0) (not-true (is_interface k.flags) c.0) (nil_is k.interfaces (eqb-true (length k.interfaces) 0 c.1)) where
      none_is : (o : Option (List ℕ)) → is_none o ≡ true → o ≡ None
      none_is None t = refl
      none_is (Some x) t = absurd cc

      nil_is : (xs : List (List ℕ)) → length xs ≡ 0 → xs ≡ []
      nil_is [] t = refl
      nil_is (x ∷ xs) t = absurd (omega arith)

sound_below : (files : List ClassInfo) (start : List ℕ) (waits : List Wait) (waiting order : List ℕ) → AreWaits files start waits → IsReleased waits start waiting order → (n p : ℕ) → p < n → p < length order → (k : ClassInfo) → slice_get files (get_or order p 0) ≡ Some k → Loadable files k.name
sound_below files start waits waiting order h r zero p l m k e = absurd (omega arith)
sound_below files start waits waiting order h r (suc n) p l m k e =
    let i = get_or order p 0 in
    let earlier : (w : Wait) → Contains (waits_at files i k) w → w.below ≡ i → (a : ClassInfo) → slice_get files w.above ≡ Some a → Loadable files a.name = λ w c b a f.
    (let x = there_is_wait files start waits h i k w e c in
    let q = place_of (take p order) w.above (r.behind p x.place w m x.is b) in
    let short : q.place < p = omega (arith, q.within, length-take p order) in
    let is : get_or order q.place 0 ≡ w.above = sym (get_or-take p order q.place 0 short) ∙ q.is in
    sound_below files start waits waiting order h r n q.place (omega arith) (omega arith) a (subst (λ j. slice_get files j ≡ Some a) (sym is) f)) in
    let full : wanted k ≡ length (waits_at files i k) = sym (waits_started files start waits h i k e) ∙ r.sound p m ∙ waits_counted files start waits h i k e in
    elim (waits_full files i k full) [
      | inl root ↦ root_is files i k e root
      | inr v ↦
          (let s = v.superclass.0 in
          let f = found_is files false v.super s v.superclass.1 in
          below i k v.super e v.is (names_from_found files false v.super s f)
          (subst (Loadable files) f.named (earlier (wait s i) (has_superclass files i k v.super s v.is v.superclass.1) refl f.class f.there))
          (λ j name g. (let t = v.interfaces j name g in names_from_found files true name t.0 (found_is files true name t.0 t.1)))
          (λ j name g. (let t = v.interfaces j name g in let u = found_is files true name t.0 t.1 in
          subst (Loadable files) u.named (earlier (wait t.0 i) (has_interface files i k j name t.0 g t.1) refl u.class u.there))))
    ]

pub order_is_loadable : (files : List ClassInfo) (start : List ℕ) (waits : List Wait) (waiting order : List ℕ) → AreWaits files start waits → IsReleased waits start waiting order → (i : ℕ) (k : ClassInfo) → slice_get files i ≡ Some k → is_in order i ≡ true → Loadable files k.name
order_is_loadable files start waits waiting order h r i k e m =
    let p = place_of order i m in
    sound_below files start waits waiting order h r (suc p.place) p.place (omega arith) p.within k (subst (λ j. slice_get files j ≡ Some k) (sym p.is) e)

-- ---- complete

resolved : (files : List ClassInfo) (interface : Bool) (name : List ℕ) → IsAscending (names_of files) → Names files interface name → (s : ℕ) × (class_of_kind files interface name ≡ Some s)
resolved files interface name up n = (n.place, is_found files interface name n.place up (found_from_names files interface name n))

none_at : (files : List ClassInfo) (i : ℕ) (k : ClassInfo) → k.superclass ≡ None → k.interfaces ≡ [] → waits_at files i k ≡ []
none_at files i k e f = go k.superclass k.interfaces e f where
  go : (o : Option (List ℕ)) (xs : List (List ℕ)) → o ≡ None → xs ≡ [] → option_map_or (wait_for files i false) o [] ++ flat_map (wait_for files i true) xs ≡ []
  go None [] e f = refl
  go None (x ∷ xs) e f = absurd cc
  go (Some y) xs e f = absurd cc

root_wants : (k : ClassInfo) → k.name ≡ object_name → k.superclass ≡ None → is_interface k.flags ≡ false → k.interfaces ≡ [] → wanted k ≡ 0
root_wants k named super kind none =
    let test : is_root k ≡ true = and_from _ _ (ap is_none super) (and_from _ _ ((bytes_eq-Decides k.name object_name).1 named) (and_from _ _ (ap not kind) (eq-eqb _ _ (ap length none)))) in
    ap (λ b. cond b 0 (length k.interfaces + 1)) test

-- the class at a place, whichever way it was read
one_class : (files : List ClassInfo) (i j : ℕ) (a b : ClassInfo) → i ≡ j → slice_get files i ≡ Some a → slice_get files j ≡ Some b → a ≡ b
one_class files i j a b e f g = some_is (sym f ∙ ap (slice_get files) e ∙ g) where
  some_is : {x y : ClassInfo} → Some x ≡ Some y → x ≡ y
  some_is e = cc

-- a wait of class i is one of the class that was read there
wait_at : (files : List ClassInfo) (start : List ℕ) (waits : List Wait) → AreWaits files start waits → (i : ℕ) (a : ClassInfo) → slice_get files i ≡ Some a → (x : ℕ) (w : Wait) → slice_get waits x ≡ Some w → w.below ≡ i → Contains (waits_at files i a) w
wait_at files start waits h i a e x w f b =
    let t = wait_there files start waits h x w f in
    subst (λ (k : ClassInfo). Contains (waits_at files i k) w) (one_class files w.below i t.0 a b t.2 e) (subst (λ j. Contains (waits_at files j t.0) w) b t.3)

pub loadable_is_in_order : (files : List ClassInfo) (start : List ℕ) (waits : List Wait) (waiting order : List ℕ) → IsAscending (names_of files) → AreWaits files start waits → IsReleased waits start waiting order → (name : List ℕ) → Loadable files name → (i : ℕ) (a : ClassInfo) → slice_get files i ≡ Some a → a.name ≡ name → is_in order i ≡ true
loadable_is_in_order files start waits waiting order up h r name (object place k there named super kind none) i a e same =
    let is = one_class files i place a k (one_place files i place a k up e there same) e there in
    let size : length start ≡ length files = ap length h.starts ∙ length-map files wanted in
    let free : waits_at files i a ≡ [] = none_at files i a (ap (λ (x : ClassInfo). x.superclass) is ∙ super) (ap (λ (x : ClassInfo). x.interfaces) is ∙ none) in
    let wants : wanted a ≡ 0 = ap wanted is ∙ root_wants k named super kind none in
    let count : count_of waits i ≡ 0 = waits_counted files start waits h i a e ∙ ap length free in
    r.complete i (omega (arith, size, slice_get_within files i a e)) (waits_started files start waits h i a e ∙ wants ∙ sym count)
    (λ x w f b. absurd (nothing w (subst (λ (ws : List Wait). Contains ws w) free (wait_at files start waits h i a e x w f b)))) where
      nothing : (w : Wait) → Contains [] w → ⊥
      nothing w c = omega (arith, c.1)
loadable_is_in_order files start waits waiting order up h r name (below place k super there is names above all each) i a e same =
    let one = one_class files i place a k (one_place files i place a k up e there same) e there in
    let size : length start ≡ length files = ap length h.starts ∙ length-map files wanted in
    let interfaces : a.interfaces ≡ k.interfaces = ap (λ (x : ClassInfo). x.interfaces) one in
    let super_is : a.superclass ≡ Some super = ap (λ (x : ClassInfo). x.superclass) one ∙ is in
    let listed : (j : ℕ) (n : List ℕ) → slice_get a.interfaces j ≡ Some n → slice_get k.interfaces j ≡ Some n = λ j n g. sym (ap (λ (xs : List (List ℕ)). slice_get xs j) interfaces) ∙ g in
    let found : Resolves files a = record { super = super; is = super_is; superclass = resolved files false super up names; interfaces = λ j n g. resolved files true n up (all j n (listed j n g)) } in
    r.complete i (omega (arith, size, slice_get_within files i a e)) (waits_started files start waits h i a e ∙ full_waits files i a found ∙ sym (waits_counted files start waits h i a e))
    (λ x w f b. elim (wait_from files i a w (wait_at files start waits h i a e x w f b)) [
      | inl v ↦ (let c = found_is files false v.0 w.above v.2.above in
          loadable_is_in_order files start waits waiting order up h r super above w.above c.class c.there (c.named ∙ same_super v.0 super (sym v.1 ∙ super_is)))
      | inr v ↦ (let c = found_is files true v.1 w.above v.3.above in
          loadable_is_in_order files start waits waiting order up h r v.1 (each v.0 v.1 (listed v.0 v.1 v.2)) w.above c.class c.there c.named)
    ]) where
      same_super : (x y : List ℕ) → Some x ≡ Some y → x ≡ y
      same_super x y e = cc

-- ---- loadable in one list and in another

-- classes that are loadable among some are loadable among others that have all the loadable ones
pub loadable_in : (files classes : List ClassInfo) → ((i : ℕ) (k : ClassInfo) → slice_get files i ≡ Some k → Loadable files k.name → IsAt classes k) → (name : List ℕ) → Loadable files name → Loadable classes name
loadable_in files classes kept name (object place k there named super kind none) =
    let c = kept place k there (object place k there named super kind none) in
    object c.place k c.is named super kind none
loadable_in files classes kept name (below place k super there is names above all each) =
    let c = kept place k there (below place k super there is names above all each) in
    below c.place k super c.is is (moved false super names above) (loadable_in files classes kept super above)
    (λ i n g. moved true n (all i n g) (each i n g)) (λ i n g. loadable_in files classes kept n (each i n g)) where
      moved : (interface : Bool) (n : List ℕ) → Names files interface n → Loadable files n → Names classes interface n
      moved interface n m l = (let c = kept m.place m.class m.there (subst (Loadable files) (sym m.named) l) in record { place = c.place; class = m.class; there = c.is; named = m.named; kind = m.kind })
