-- Which classes have what is sought above them, and the way to it.
use Rattle.std.proofs.Common.{◌≡◌, ◌∙◌, ℕ, zero, suc, ◌+◌, ◌<◌, Bool, true, false, List, [], ◌∷◌, ◌++◌, length, get_or, Option, Some, None, refl, sym, ap, subst, arith, inl, inr, ◌⊎◌, ◌↔◌, append-nil}
use Rattle.std.specs.Prelude.{slice_get, option_to_list, is_some, IsTrue}
use Rattle.std.specs.Bool.{OnTrue, OnFalse}
use Rattle.std.proofs.lemmas.Bool.{cases_lt}
use Rattle.std.proofs.lemmas.Option.{slice_get_within, slice_get-get_or, get_or_from_slice_get, same_Some}
use Rattle.wf_base.specs.declared.ids.ClassId.{ClassId}
use Rattle.wf_data.specs.declared.class_info.ClassInfo.{ClassInfo}
use Rattle.wf_grammar.specs.ClassFile.{Key}
use Rattle.wf_classes.specs.World.{AreHeights, number, superclass_of, superinterfaces_of}
use Rattle.wf_classes.specs.Members.{field_number}
use Rattle.wf_classes.specs.Above.{IsDirectlyAbove, superclass, superinterface, IsAbove, itself, through, Has, Adds}
use Rattle.wf_classes.proofs.KeyLists.{get_push}
use Rattle.wf_resolve.specs.Fields.{places_behind, FieldOf, behind, nowhere}
use Rattle.wf_resolve.specs.Reaching.{DeclaresField, Reaches, IsReaching, AreReaching, IsFirstMarked, FirstMarkedOf}
use Rattle.wf_resolve.proofs.Ranks.{is_lower}
use Rattle.wf_resolve.proofs.Climbing.{by_last, no_higher, same_height, height_within}

-- ---- the places behind a class are the classes directly above it

at_front : (xs : List ℕ) (o : Option ℕ) (i s : ℕ) → slice_get xs i ≡ Some s → slice_get (xs ++ option_to_list o) i ≡ Some s
at_front [] o i s e = absurd cc
at_front (x ∷ xs) o zero s e = e
at_front (x ∷ xs) o (suc i) s e = at_front xs o i s e

at_end : (xs : List ℕ) (s : ℕ) → slice_get (xs ++ s ∷ []) (length xs) ≡ Some s
at_end [] s = refl
at_end (x ∷ xs) s = at_end xs s

pub place_of_direct : (classes : List ClassInfo) (d s : ℕ) → IsDirectlyAbove classes d s → (i : ℕ) × (slice_get (places_behind classes d) i ≡ Some s)
place_of_direct classes d s (superinterface i t e) = (i, at_front (superinterfaces_of classes d) (superclass_of classes d) i t e)
place_of_direct classes d s (superclass t e) = (length (superinterfaces_of classes d), ap (λ o. slice_get (superinterfaces_of classes d ++ option_to_list o) (length (superinterfaces_of classes d))) e ∙ at_end (superinterfaces_of classes d) t)

pub direct_of_place : (classes : List ClassInfo) (d i s : ℕ) → slice_get (places_behind classes d) i ≡ Some s → IsDirectlyAbove classes d s
direct_of_place classes d i s e = go (superclass_of classes d) refl e where
  go : (o : Option ℕ) → superclass_of classes d ≡ o → slice_get (superinterfaces_of classes d ++ option_to_list o) i ≡ Some s → IsDirectlyAbove classes d s
  go None f g = superinterface i s (sym (ap (λ (xs : List ℕ). slice_get xs i) (append-nil (superinterfaces_of classes d))) ∙ g)
  go (Some t) f g = elim (get_push (superinterfaces_of classes d) t i s g) [
    | inl a ↦ superinterface i s a
    | inr b ↦ subst (IsDirectlyAbove classes d) b.1 (superclass t f)
  ]

-- ---- what reaches

pub reaches_split : (classes : List ClassInfo) (P : ℕ → Type 0) (d : ℕ) → Reaches classes P d → P d ⊎ ((s : ℕ) × IsDirectlyAbove classes d s × Reaches classes P s)
reaches_split classes P d r = go d r.end r.above r.is where
  go : (d e : ℕ) → IsAbove classes d e → P e → P d ⊎ ((s : ℕ) × IsDirectlyAbove classes d s × Reaches classes P s)
  go d e (itself x) is = inl is
  go d e (through x s y h rest) is = inr (s, h, record { end = y; above = rest; is = is })

pub reaches_up : (classes : List ClassInfo) (P : ℕ → Type 0) (d s : ℕ) → IsDirectlyAbove classes d s → Reaches classes P s → Reaches classes P d
reaches_up classes P d s h r = record { end = r.end; above = through d s r.end h r.above; is = r.is }

-- the classes below a height that are above class c and reach it are marked
pub record IsReachedTo (classes : List ClassInfo) (heights : List ℕ) (P : ℕ → Type 0) (c n : ℕ) (bits : List ℕ) : Type 0 where
  pub size : length bits ≡ 1024
  pub each : (d : ℕ) → d < length classes → get_or heights d 0 < n → Has bits (get_or heights d 0) ↔ IsReaching classes P c d
  pub only : (h : ℕ) → Has bits h → h < n

pub reached_none : (classes : List ClassInfo) (heights : List ℕ) (P : ℕ → Type 0) (c : ℕ) (bits : List ℕ) → length bits ≡ 1024 → ((h : ℕ) → Has bits h → ⊥) → IsReachedTo classes heights P c 0 bits
reached_none classes heights P c bits size none = record { size = size; each = λ d l m. absurd (omega arith); only = λ h p. absurd (none h p) }

pub reached_more : (classes : List ClassInfo) (order heights : List ℕ) (P : ℕ → Type 0) (c n d : ℕ) (old new : List ℕ) (b : Bool) → AreHeights classes order heights → d < length classes → get_or heights d 0 ≡ n → IsReachedTo classes heights P c n old → (IsTrue b ↔ IsReaching classes P c d) → OnTrue b (Adds old new (λ g. g ≡ n)) → OnFalse b (new ≡ old) → IsReachedTo classes heights P c (n + 1) new
reached_more classes order heights P c n d old new true r k e h is add same = record {
  size = add.same_length ∙ h.size;
  each = λ x l m. elim (cases_lt (get_or heights x 0) n) [
    | inl low ↦ (λ p. (h.each x l low).0 (old_has x low ((add.each (get_or heights x 0)).0 p)), λ q. (add.each (get_or heights x 0)).1 (inl ((h.each x l low).1 q)))
    | inr high ↦ (let here : x ≡ d = same_height classes order heights x d r l k (omega (arith, m, high, e)) in
        (λ p. subst (IsReaching classes P c) (sym here) (is.0 refl), λ q. (add.each (get_or heights x 0)).1 (inr (ap (λ y. get_or heights y 0) here ∙ e))))
  ];
  only = λ g p. elim ((add.each g).0 p) [ inl a ↦ (let low = h.only g a in omega arith) | inr b ↦ omega arith ];
} where
  old_has : (x : ℕ) → get_or heights x 0 < n → (Has old (get_or heights x 0) ⊎ (get_or heights x 0 ≡ n)) → Has old (get_or heights x 0)
  old_has x low (inl a) = a
  old_has x low (inr f) = absurd (omega arith)
reached_more classes order heights P c n d old new false r k e h is add same =
    subst (IsReachedTo classes heights P c (n + 1)) (sym same) (record {
      size = h.size;
      each = λ x l m. elim (cases_lt (get_or heights x 0) n) [
        | inl low ↦ h.each x l low
        | inr high ↦ (let here : x ≡ d = same_height classes order heights x d r l k (omega (arith, m, high, e)) in
            (λ p. absurd (let low = h.only (get_or heights x 0) p in omega arith), λ q. absurd (clash (is.1 (subst (IsReaching classes P c) here q)))))
      ];
      only = λ g p. (let low = h.only g p in omega arith);
    }) where
      clash : false ≡ true → ⊥
      clash f = cc

pub all_reached : (classes : List ClassInfo) (order heights : List ℕ) (P : ℕ → Type 0) (c : ℕ) (bits : List ℕ) → AreHeights classes order heights → c < length classes → IsReachedTo classes heights P c (get_or heights c 0 + 1) bits → AreReaching classes heights P c bits
all_reached classes order heights P c bits r k h = record {
  size = h.size;
  each = λ d a. (let n = no_higher classes order heights c d r k a in let e = h.each d n.there (let m = n.height in omega arith) in
      (λ p. (e.0 p).reaches, λ q. e.1 (record { above = a; reaches = q })));
}

-- what is directly above the next class was passed
pub direct_marked : (classes : List ClassInfo) (order heights : List ℕ) (P : ℕ → Type 0) (c n d : ℕ) (bits : List ℕ) → AreHeights classes order heights → d < length classes → get_or heights d 0 ≡ n → IsReachedTo classes heights P c n bits → (s : ℕ) → IsDirectlyAbove classes d s → Has bits (get_or heights s 0) ↔ IsReaching classes P c s
direct_marked classes order heights P c n d bits r k e h s a =
    let l = is_lower classes order heights d s r k a in
    h.each s l.there (let m = l.lower in omega arith)

-- one of the places behind a class is marked where it reaches what is sought, and isn't that itself
pub behind_is : (classes : List ClassInfo) (heights : List ℕ) (P : ℕ → Type 0) (c d : ℕ) (bits : List ℕ) (o : Option ClassId) → IsAbove classes c d → (P d → ⊥) → ((s : ℕ) → IsDirectlyAbove classes d s → Has bits (get_or heights s 0) ↔ IsReaching classes P c s) → FirstMarkedOf bits heights (places_behind classes d) o → (IsTrue (is_some o) → IsReaching classes P c d) × (IsReaching classes P c d → IsTrue (is_some o))
behind_is classes heights P c d bits (Some s) a n h f =
    (λ t. (let direct = direct_of_place classes d f.place (number s) f.there in record { above = a; reaches = reaches_up classes P d (number s) direct ((h (number s) direct).0 f.marked).reaches }), λ q. refl)
behind_is classes heights P c d bits None a n h f = (λ t. absurd (clash t), λ q. absurd (go (reaches_split classes P d q.reaches))) where
  clash : false ≡ true → ⊥
  clash f = cc

  go : P d ⊎ ((s : ℕ) × IsDirectlyAbove classes d s × Reaches classes P s) → ⊥
  go (inl is) = n is
  go (inr x) =
      let p = place_of_direct classes d x.0 x.1 in
      f p.0 x.0 p.1 ((h x.0 x.1).1 (record { above = by_last classes c d x.0 a x.1; reaches = x.2 }))

-- ---- fields

-- where no class above one declares it, the search finds nothing
pub none_from : (classes : List ClassInfo) (order heights : List ℕ) (key : Key) (n t : ℕ) → AreHeights classes order heights → t < length classes → get_or heights t 0 < n → ((e : ℕ) → IsAbove classes t e → DeclaresField classes key.0 key.1 e → ⊥) → FieldOf classes key t None
none_from classes order heights key zero t r k l h = absurd (omega arith)
none_from classes order heights key (suc n) t r k l h =
    nowhere t (none_own t (h t (itself t))) (λ j u e. (let direct = direct_of_place classes t j u e in let low = is_lower classes order heights t u r k direct in
    none_from classes order heights key n u r low.there (let m = low.lower in omega arith) (λ x a d. h x (through t u x direct a) d))) where
      none_own : (t : ℕ) → (DeclaresField classes key.0 key.1 t → ⊥) → field_number classes t key.0 key.1 ≡ None
      none_own t no_field = go (field_number classes t key.0 key.1) refl where
        go : (o : Option ℕ) → field_number classes t key.0 key.1 ≡ o → field_number classes t key.0 key.1 ≡ None
        go None e = e
        go (Some f) e = absurd (no_field (record { field = f; there = e }))

-- the state of the walk: class d is class c, or has the field above it
pub record IsOnWay (classes : List ClassInfo) (name desc : List ℕ) (c d : ℕ) : Type 0 where
  pub in_there : d < length classes
  pub above : IsAbove classes c d
  pub some : (x : ℕ) → FieldOf classes (name, desc) d (Some x) → FieldOf classes (name, desc) c (Some x)
  pub reached : (d ≡ c) ⊎ Reaches classes (DeclaresField classes name desc) d

unmarked_none : (classes : List ClassInfo) (order heights name desc : List ℕ) (c d t : ℕ) (bits : List ℕ) → AreHeights classes order heights → d < length classes → IsAbove classes c d → AreReaching classes heights (DeclaresField classes name desc) c bits → IsDirectlyAbove classes d t → (Has bits (get_or heights t 0) → ⊥) → FieldOf classes (name, desc) t None
unmarked_none classes order heights name desc c d t bits r k a are direct not_marked =
    none_from classes order heights (name, desc) (get_or heights t 0 + 1) t r (is_lower classes order heights d t r k direct).there (omega arith)
    (λ e b f. not_marked ((are.each t (by_last classes c d t a direct)).1 (record { end = e; above = b; is = f })))

pub way_on : (classes : List ClassInfo) (order heights name desc : List ℕ) (c d : ℕ) (bits : List ℕ) (s : ℕ) → AreHeights classes order heights → AreReaching classes heights (DeclaresField classes name desc) c bits → IsOnWay classes name desc c d → field_number classes d name desc ≡ None → IsFirstMarked bits heights (places_behind classes d) s → IsOnWay classes name desc c s
way_on classes order heights name desc c d bits s r are w none f =
    let direct = direct_of_place classes d f.place s f.there in
    let a = by_last classes c d s w.above direct in
    record {
      in_there = (is_lower classes order heights d s r w.in_there direct).there;
      above = a;
      some = λ x h. w.some x (behind d f.place s x none f.there (λ j t l e. unmarked_none classes order heights name desc c d t bits r w.in_there w.above are (direct_of_place classes d j t e) (f.first j t l e)) h);
      reached = inr ((are.each s a).0 f.marked);
    }

pub way_ends : (classes : List ClassInfo) (order heights name desc : List ℕ) (c d : ℕ) (bits : List ℕ) → AreHeights classes order heights → AreReaching classes heights (DeclaresField classes name desc) c bits → IsOnWay classes name desc c d → field_number classes d name desc ≡ None → ((j t : ℕ) → slice_get (places_behind classes d) j ≡ Some t → Has bits (get_or heights t 0) → ⊥) → FieldOf classes (name, desc) c None
way_ends classes order heights name desc c d bits r are w none f = go w.reached where
  declared_not : DeclaresField classes name desc d → ⊥
  declared_not x = clash x.field x.there none where
    clash : (n : ℕ) → field_number classes d name desc ≡ Some n → field_number classes d name desc ≡ None → ⊥
    clash n a b = cc

  ends : DeclaresField classes name desc d ⊎ ((s : ℕ) × IsDirectlyAbove classes d s × Reaches classes (DeclaresField classes name desc) s) → ⊥
  ends (inl is) = declared_not is
  ends (inr x) = (let p = place_of_direct classes d x.0 x.1 in f p.0 x.0 p.1 ((are.each x.0 (by_last classes c d x.0 w.above x.1)).1 x.2))

  go : (d ≡ c) ⊎ Reaches classes (DeclaresField classes name desc) d → FieldOf classes (name, desc) c None
  go (inl same) = subst (λ x. FieldOf classes (name, desc) x None) same (nowhere d none (λ j t e. unmarked_none classes order heights name desc c d t bits r w.in_there w.above are (direct_of_place classes d j t e) (f j t e)))
  go (inr reaches) = absurd (ends (reaches_split classes (DeclaresField classes name desc) d reaches))

-- ---- the first of a list that is marked

pub first_more : (bits heights numbers : List ℕ) (n s : ℕ) → slice_get numbers n ≡ Some s → ((Has bits (get_or heights s 0)) → ⊥) → ((j t : ℕ) → j < n → slice_get numbers j ≡ Some t → Has bits (get_or heights t 0) → ⊥) → (j t : ℕ) → j < n + 1 → slice_get numbers j ≡ Some t → Has bits (get_or heights t 0) → ⊥
first_more bits heights numbers n s e unmarked h j t l f m = elim (cases_lt j n) [
  | inl low ↦ h j t low f m
  | inr high ↦ (let here : j ≡ n = omega arith in
      let same : t ≡ s = same_Some t s (sym f ∙ ap (slice_get numbers) here ∙ e) in
      unmarked (subst (λ x. Has bits (get_or heights x 0)) same m))
]

-- ---- the sweep

height_of : (classes : List ClassInfo) (order heights : List ℕ) (h : ℕ) → AreHeights classes order heights → h < length classes → (get_or order h 0 < length classes) × (get_or heights (get_or order h 0) 0 ≡ h)
height_of classes order heights h r l =
    let c = get_or order h 0 in
    let e = r.ordered h c (slice_get-get_or order h 0 (omega (arith, r.count))) in
    ((let w = slice_get_within heights c h e in omega (arith, r.counted)), get_or_from_slice_get heights c h 0 e)

-- the class of the next height
pub record IsNextUp (classes : List ClassInfo) (heights : List ℕ) (h d : ℕ) : Type 0 where
  pub in_there : d < length classes
  pub height : get_or heights d 0 ≡ h

pub next_up : (classes : List ClassInfo) (order heights : List ℕ) (c h : ℕ) → AreHeights classes order heights → c < length classes → h < get_or heights c 0 + 1 → IsNextUp classes heights h (get_or order h 0)
next_up classes order heights c h r k l =
    let p = height_of classes order heights h r (let w = height_within classes order heights c r k in omega arith) in
    record { in_there = p.0; height = p.1 }
