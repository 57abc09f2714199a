-- The sweep that marks the classes above one.
use Rattle.std.proofs.Common.{◌≡◌, ℕ, ◌+◌, ◌/◌, ◌%◌, ◌<◌, ◌≤◌, ◌⊎◌, inl, inr, List, length, get_or, map, Option, Some, None, refl, sym, ap, subst, ◌∙◌, arith}
use Rattle.std.proofs.lemmas.Bool.{cases_lt}
use Rattle.std.proofs.Math.ListN.{replicate}
use Rattle.std.proofs.lemmas.List.{get_or-replicate, get_or_past, length-replicate}
use Rattle.std.proofs.lemmas.Nat.Bits.{bit_at-zero}
use Rattle.std.proofs.lemmas.Option.{slice_get-get_or, get_or_from_slice_get, slice_get_within, slice_get-map}
use Rattle.std.specs.Int.{bit_at}
use Rattle.std.specs.Prelude.{slice_get, option_map}
use Rattle.wf_base.specs.declared.ids.ClassId.{ClassId}
use Rattle.wf_data.specs.declared.class_info.ClassInfo.{ClassInfo}
use Rattle.wf_classes.specs.World.{superclass_of, superinterfaces_of, number, AreHeights}
use Rattle.wf_classes.specs.Above.{IsDirectlyAbove, IsAbove, IsBelow, IsHighest, Has, Adds, IsHeightAmong, IsHeightOfDirect, IsHeightOfAbove, IsSwept, MarksAbove, IsAboveKept, IsLastSetIn, IsLastSet}
use Rattle.wf_classes.specs.Above.IsDirectlyAbove.{superclass, superinterface}
use Rattle.wf_classes.specs.Above.IsAbove.{itself, through}

-- ---- heights

-- each class has a height, at which the order has it
pub height_there : (classes : List ClassInfo) (order heights : List ℕ) (c : ℕ) → AreHeights classes order heights → c < length classes → (slice_get heights c ≡ Some (get_or heights c 0)) × (slice_get order (get_or heights c 0) ≡ Some c) × (get_or heights c 0 < length classes)
height_there classes order heights c h l =
    let e = slice_get-get_or heights c 0 (omega (arith, h.counted)) in
    let f = h.placed c (get_or heights c 0) e in
    (e, f, omega (arith, slice_get_within order (get_or heights c 0) c f, h.count))

-- classes of one height are one
pub same_height : (classes : List ClassInfo) (order heights : List ℕ) (c d : ℕ) → AreHeights classes order heights → c < length classes → d < length classes → get_or heights c 0 ≡ get_or heights d 0 → c ≡ d
same_height classes order heights c d h lc ld e =
    let p = height_there classes order heights c h lc in
    let q = height_there classes order heights d h ld in
    let r : Some c ≡ Some d = sym p.1 ∙ ap (slice_get order) e ∙ q.1 in cc

-- heights fall to what is directly above
pub direct_falls : (classes : List ClassInfo) (order heights : List ℕ) (c s : ℕ) → AreHeights classes order heights → c < length classes → IsDirectlyAbove classes c s → (s < length classes) × (get_or heights s 0 < get_or heights c 0)
direct_falls classes order heights c s h l (superclass s' e) = below s' (h.superclass c s' (get_or heights c 0) e (height_there classes order heights c h l).0) where
  below : (s : ℕ) → ((l : ℕ) × (slice_get heights s ≡ Some l) × (l < get_or heights c 0)) → (s < length classes) × (get_or heights s 0 < get_or heights c 0)
  below s p = (omega (arith, slice_get_within heights s p.0 p.1, h.counted), omega (arith, get_or_from_slice_get heights s p.0 0 p.1, p.2))
direct_falls classes order heights c s h l (superinterface i s' e) = below s' (h.superinterface c i s' (get_or heights c 0) e (height_there classes order heights c h l).0) where
  below : (s : ℕ) → ((l : ℕ) × (slice_get heights s ≡ Some l) × (l < get_or heights c 0)) → (s < length classes) × (get_or heights s 0 < get_or heights c 0)
  below s p = (omega (arith, slice_get_within heights s p.0 p.1, h.counted), omega (arith, get_or_from_slice_get heights s p.0 0 p.1, p.2))

-- heights fall on each way upwards, which stays among the classes
pub above_falls : (classes : List ClassInfo) (order heights : List ℕ) (c d : ℕ) → AreHeights classes order heights → c < length classes → IsAbove classes c d → (d < length classes) × (((c ≡ d) ⊎ (get_or heights d 0 < get_or heights c 0)))
above_falls classes order heights c d h l (itself c') = (l, inl refl)
above_falls classes order heights c d h l (through c' s d' direct rest) =
    let p = direct_falls classes order heights c s h l direct in
    let q = above_falls classes order heights s d h p.0 rest in
    (q.0, inr (elim q.1 [ inl e ↦ omega (arith, p.1, ap (λ n. get_or heights n 0) e) | inr lower ↦ omega (arith, p.1, lower) ]))

-- ---- ways upwards

pub above_through : (classes : List ClassInfo) (c d e : ℕ) → IsAbove classes c d → IsAbove classes d e → IsAbove classes c e
above_through classes c d e (itself c') q = q
above_through classes c d e (through c' s d' direct rest) q = through c s e direct (above_through classes s d e rest q)

pub above_then_direct : (classes : List ClassInfo) (c d s : ℕ) → IsAbove classes c d → IsDirectlyAbove classes d s → IsAbove classes c s
above_then_direct classes c d s p q = above_through classes c d s p (through d s s q (itself s))

-- ---- the sweep

pub sweep_starts : (classes : List ClassInfo) (order heights : List ℕ) (class : ℕ) (empty bits : List ℕ) → AreHeights classes order heights → class < length classes → ((h : ℕ) → Has empty h → ⊥) → Adds empty bits (λ g. g ≡ get_or heights class 0) → IsSwept classes heights class (get_or heights class 0 + 1) bits
sweep_starts classes order heights class empty bits h l none add = record {
  start = (add.each (get_or heights class 0)).1 (inr refl);
  sound = λ g has. elim ((add.each g).0 has) [ inl a ↦ absurd (none g a) | inr b ↦ record { above = class; is = itself class; inside = l; height = b } ];
  closed = λ d s ld bound has direct. elim ((add.each (get_or heights d 0)).0 has) [ inl a ↦ absurd (none (get_or heights d 0) a) | inr b ↦ absurd (omega (arith, b, bound)) ];
}

pub sweep_goes_on : (classes : List ClassInfo) (order heights : List ℕ) (class bound g d : ℕ) (old new : List ℕ) → AreHeights classes order heights → IsSwept classes heights class bound old → IsLastSet old 0 bound g → d ≡ get_or order g 0 → Adds old new (IsHeightOfDirect classes heights d) → IsSwept classes heights class g new
sweep_goes_on classes order heights class bound g d old new h swept last read add = record {
  start = (add.each (get_or heights class 0)).1 (inl swept.start);
  sound = λ k has. elim ((add.each k).0 has) [ inl a ↦ swept.sound k a | inr b ↦ from_direct k b ];
  closed = λ e s le low has direct. by_height e s le low direct ((add.each (get_or heights e 0)).0 has);
} where
  at : IsHeightOfAbove classes heights class g
  at = swept.sound g last.set

  is_at : d ≡ at.above
  is_at = read ∙ get_or_from_slice_get order g at.above 0 (subst (λ n. slice_get order n ≡ Some at.above) (sym at.height) (height_there classes order heights at.above h at.inside).1)

  here : d < length classes
  here = omega (arith, is_at, at.inside)

  its_height : get_or heights d 0 ≡ g
  its_height = ap (λ n. get_or heights n 0) is_at ∙ sym at.height

  above : IsAbove classes class d
  above = subst (IsAbove classes class) (sym is_at) at.is

  from_direct : (k : ℕ) → IsHeightOfDirect classes heights d k → IsHeightOfAbove classes heights class k
  from_direct k b = record { above = b.class; is = above_then_direct classes class d b.class above b.direct; inside = (direct_falls classes order heights d b.class h here b.direct).0; height = b.height }

  by_height : (e s : ℕ) → e < length classes → g ≤ get_or heights e 0 → IsDirectlyAbove classes e s → (Has old (get_or heights e 0) ⊎ IsHeightOfDirect classes heights d (get_or heights e 0)) → Has new (get_or heights s 0)
  by_height e s le low direct (inl has) = elim (cases_lt (get_or heights e 0) bound) [
    | inl below ↦ (add.each (get_or heights s 0)).1 (inr (record { class = s; direct = subst (λ n. IsDirectlyAbove classes n s) (same_height classes order heights e d h le here (omega (arith, last.last (get_or heights e 0) has below, its_height))) direct; height = refl }))
    | inr done ↦ (add.each (get_or heights s 0)).1 (inl (swept.closed e s le done has direct))
  ]
  by_height e s le low direct (inr b) = absurd (omega (arith, b.height, (direct_falls classes order heights d b.class h here b.direct).1, its_height))

pub sweep_ends : (classes : List ClassInfo) (order heights : List ℕ) (class bound : ℕ) (bits : List ℕ) → AreHeights classes order heights → class < length classes → IsSwept classes heights class bound bits → IsLastSetIn bits 0 bound None → MarksAbove classes heights class bits
sweep_ends classes order heights class bound bits h l swept none = record {
  each = λ d ld. (λ has. is_above d ld has, λ above. reaches class d l swept.start above);
  only = swept.sound;
} where
  is_above : (d : ℕ) → d < length classes → Has bits (get_or heights d 0) → IsAbove classes class d
  is_above d ld has =
      let at = swept.sound (get_or heights d 0) has in
      subst (IsAbove classes class) (sym (same_height classes order heights d at.above h ld at.inside at.height)) at.is

  reaches : (c d : ℕ) → c < length classes → Has bits (get_or heights c 0) → IsAbove classes c d → Has bits (get_or heights d 0)
  reaches c d lc has (itself c') = has
  reaches c d lc has (through c' s d' direct rest) = reaches s d (direct_falls classes order heights c s h lc direct).0
      (swept.closed c s lc (elim (cases_lt (get_or heights c 0) bound) [ inl below ↦ absurd (none (get_or heights c 0) has (omega arith) below) | inr le ↦ le ]) has direct) rest

-- ---- laws

pub above_antisymmetric : (classes : List ClassInfo) (order heights : List ℕ) (c d : ℕ) → AreHeights classes order heights → c < length classes → IsAbove classes c d → IsAbove classes d c → c ≡ d
above_antisymmetric classes order heights c d h l p q =
    let up = above_falls classes order heights c d h l p in
    elim up.1 [ inl e ↦ e | inr lower ↦ elim (above_falls classes order heights d c h up.0 q).1 [ inl e ↦ sym e | inr back ↦ absurd (omega (arith, lower, back)) ] ]

pub above_lower : (classes : List ClassInfo) (order heights : List ℕ) (c d : ℕ) → AreHeights classes order heights → c < length classes → IsAbove classes c d → (c ≡ d → ⊥) → get_or heights d 0 < get_or heights c 0
above_lower classes order heights c d h l p apart = elim (above_falls classes order heights c d h l p).1 [ inl e ↦ absurd (apart e) | inr lower ↦ lower ]

-- ---- what is directly above

-- an interface of the list
pub among_direct : (classes : List ClassInfo) (heights : List ℕ) (c : ℕ) (ids : List ClassId) (h : ℕ) → map number ids ≡ superinterfaces_of classes c → IsHeightAmong heights ids (length ids) h → IsHeightOfDirect classes heights c h
among_direct classes heights c ids h e a = record {
  class = a.class.0;
  direct = superinterface a.place a.class.0 (ap (λ (xs : List ℕ). slice_get xs a.place) (sym e) ∙ slice_get-map number ids a.place ∙ ap (option_map number) a.there);
  height = a.height;
}

pub interface_among : (classes : List ClassInfo) (heights : List ℕ) (c : ℕ) (ids : List ClassId) (i s h : ℕ) → map number ids ≡ superinterfaces_of classes c → slice_get (superinterfaces_of classes c) i ≡ Some s → h ≡ get_or heights s 0 → IsHeightAmong heights ids (length ids) h
interface_among classes heights c ids i s h e there height = found (slice_get ids i) refl (sym (slice_get-map number ids i) ∙ ap (λ (xs : List ℕ). slice_get xs i) e ∙ there) where
  found : (o : Option ClassId) → slice_get ids i ≡ o → option_map number o ≡ Some s → IsHeightAmong heights ids (length ids) h
  found (Some k) is same = record { place = i; class = k; within = slice_get_within ids i k is; there = is; height = height ∙ (let number_is : s ≡ k.0 = cc in ap (λ n. get_or heights n 0) number_is) }
  found None is same = absurd cc

pub direct_from_none : (classes : List ClassInfo) (heights : List ℕ) (c : ℕ) (ids : List ClassId) (old new : List ℕ) → superclass_of classes c ≡ None → map number ids ≡ superinterfaces_of classes c → Adds old new (IsHeightAmong heights ids (length ids)) → Adds old new (IsHeightOfDirect classes heights c)
direct_from_none classes heights c ids old new none e add = record {
  same_length = add.same_length;
  each = λ h. (λ p. elim ((add.each h).0 p) [ inl a ↦ inl a | inr b ↦ inr (among_direct classes heights c ids h e b) ], λ q. elim q [ inl a ↦ (add.each h).1 (inl a) | inr b ↦ there h b.class b.direct b.height ]);
} where
  there : (h s : ℕ) → IsDirectlyAbove classes c s → h ≡ get_or heights s 0 → Has new h
  there h s (superclass s' f) g = absurd (cc (f, none))
  there h s (superinterface i s' f) g = (add.each h).1 (inr (interface_among classes heights c ids i s' h e f g))

pub direct_from_some : (classes : List ClassInfo) (heights : List ℕ) (c s : ℕ) (ids : List ClassId) (old mid new : List ℕ) → superclass_of classes c ≡ Some s → map number ids ≡ superinterfaces_of classes c → Adds old mid (λ g. g ≡ get_or heights s 0) → Adds mid new (IsHeightAmong heights ids (length ids)) → Adds old new (IsHeightOfDirect classes heights c)
direct_from_some classes heights c s ids old mid new some e first add = record {
  same_length = add.same_length ∙ first.same_length;
  each = λ h. (λ p. elim ((add.each h).0 p) [ inl a ↦ from_first h ((first.each h).0 a) | inr b ↦ inr (among_direct classes heights c ids h e b) ], λ q. elim q [ inl a ↦ (add.each h).1 (inl ((first.each h).1 (inl a))) | inr b ↦ there h b.class b.direct b.height ]);
} where
  from_first : (h : ℕ) → (Has old h ⊎ (h ≡ get_or heights s 0)) → Has old h ⊎ IsHeightOfDirect classes heights c h
  from_first h (inl a) = inl a
  from_first h (inr g) = inr (record { class = s; direct = superclass s some; height = g })

  there : (h t : ℕ) → IsDirectlyAbove classes c t → h ≡ get_or heights t 0 → Has new h
  there h t (superclass t' f) g = (add.each h).1 (inl ((first.each h).1 (inr (g ∙ (let same : t' ≡ s = cc (f, some) in ap (λ n. get_or heights n 0) same)))))
  there h t (superinterface i t' f) g = (add.each h).1 (inr (interface_among classes heights c ids i t' h e f g))

-- ---- the empty set

pub empty_has_none : (n h : ℕ) → Has (replicate n 0) h → ⊥
empty_has_none n h has = elim (cases_lt (h / 64) n) [
  | inl below ↦ absurd (omega (arith, has, ap (λ w. bit_at w (h % 64)) (get_or-replicate n (h / 64) 0 0 below), bit_at-zero (h % 64)))
  | inr above ↦ absurd (omega (arith, has, ap (λ w. bit_at w (h % 64)) (get_or_past (replicate n 0) (h / 64) 0 (omega (arith, length-replicate {A = ℕ} n 0, above))), bit_at-zero (h % 64)))
]

-- ---- the highest below a bound

pub highest_is : (classes : List ClassInfo) (class : ℕ) (order heights bits : List ℕ) (bound h d : ℕ) → IsAboveKept classes order heights class bits → IsLastSet bits 0 bound h → d ≡ get_or order h 0 → IsHighest (record { classes = classes; class = class; order = order; heights = heights }) bound d
highest_is classes class order heights bits bound h d kept last read =
    let at = kept.marked.only h last.set in
    let is_at : d ≡ at.above = read ∙ get_or_from_slice_get order h at.above 0 (subst (λ n. slice_get order n ≡ Some at.above) (sym at.height) (height_there classes order heights at.above kept.ranked at.inside).1) in
    let height : get_or heights d 0 ≡ h = ap (λ n. get_or heights n 0) is_at ∙ sym at.height in
    record {
      is = record { is = subst (IsAbove classes class) (sym is_at) at.is; lower = omega (arith, height, last.below) };
      highest = λ e below. omega (arith, height, last.last (get_or heights e 0) ((kept.marked.each e (above_falls classes order heights class e kept.ranked kept.inside below.is).0).1 below.is) below.lower);
    }

pub none_below : (classes : List ClassInfo) (class : ℕ) (order heights bits : List ℕ) (bound : ℕ) → IsAboveKept classes order heights class bits → IsLastSetIn bits 0 bound None → (e : ℕ) → IsBelow (record { classes = classes; class = class; order = order; heights = heights }) bound e → ⊥
none_below classes class order heights bits bound kept none e below = none (get_or heights e 0) ((kept.marked.each e (above_falls classes order heights class e kept.ranked kept.inside below.is).0).1 below.is) (omega arith) below.lower

-- a height that is marked is that of a class
pub highest_of_swept : (classes : List ClassInfo) (order heights : List ℕ) (class bound h : ℕ) (bits : List ℕ) → AreHeights classes order heights → IsSwept classes heights class bound bits → IsLastSet bits 0 bound h → (h < length order) × (get_or order h 0 < length classes)
highest_of_swept classes order heights class bound h bits ranked swept last =
    let at = swept.sound h last.set in
    let there = height_there classes order heights at.above ranked at.inside in
    (omega (arith, there.2, at.height, ranked.count), omega (arith, at.inside, get_or_from_slice_get order h at.above 0 (subst (λ n. slice_get order n ≡ Some at.above) (sym at.height) there.1)))
