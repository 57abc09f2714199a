-- Superinterfaces, visited from the greatest height down.
use Rattle.std.proofs.Common.{◌≡◌, ◌∙◌, ℕ, ◌<◌, ◌≤◌, Bool, true, false, not, cond, List, length, get_or, Option, Some, None, refl, sym, ap, subst, arith, inl, inr, ◌⊎◌, ◌↔◌}
use Rattle.std.specs.Prelude.{nat_lt}
use Rattle.std.proofs.lemmas.Bool.{cases_lt, ltb-true, lt-ltb}
use Rattle.std.proofs.lemmas.Option.{same_Some}
use Rattle.wf_base.specs.declared.ids.ClassId.{ClassId}
use Rattle.wf_data.specs.declared.class_info.ClassInfo.{ClassInfo}
use Rattle.wf_data.specs.Flags.{is_abstract}
use Rattle.wf_grammar.specs.ClassFile.{Key}
use Rattle.wf_classes.specs.World.{AreHeights, number}
use Rattle.wf_classes.specs.Above.{IsDirectlyAbove, IsAbove, itself, Has, Adds, IsHeightOfDirect}
use Rattle.wf_classes.specs.Own.{method_flags}
use Rattle.wf_resolve.specs.Inherited.{IsOffer, IsTop, IsDefault, AreDefaults, IsLeastOf, IsLeast, with_default, lesser, with_offered}
use Rattle.wf_resolve.specs.declared.superinterfaces.Defaults.{Defaults}
use Rattle.wf_resolve.specs.declared.superinterfaces.Defaults.TheVariants.{Nothing, One, Many}
use Rattle.wf_resolve.specs.declared.superinterfaces.Inherited.{Inherited}
use Rattle.wf_resolve.proofs.Ranks.{is_lower}
use Rattle.wf_resolve.proofs.Climbing.{above_above, IsLast, last_step, by_last, no_higher, same_height, height_within}

-- ---- defaults and the least number

pub map_defaults : (P Q : ℕ → Type 0) → ((i : ℕ) → P i → Q i) → ((i : ℕ) → Q i → P i) → (d : Defaults) → AreDefaults P d → AreDefaults Q d
map_defaults P Q up down Nothing h = λ i q. h i (down i q)
map_defaults P Q up down (One i) h = record { is = up (number i) h.is; only = λ j q. h.only j (down j q) }
map_defaults P Q up down Many h = record { first = h.first; second = h.second; apart = h.apart; one = up h.first h.one; other = up h.second h.other }

pub map_least : (P Q : ℕ → Type 0) → ((i : ℕ) → P i → Q i) → ((i : ℕ) → Q i → P i) → (o : Option ClassId) → IsLeast P o → IsLeast Q o
map_least P Q up down None h = λ i q. h i (down i q)
map_least P Q up down (Some i) h = record { is = up (number i) h.is; least = λ j l q. h.least j l (down j q) }

-- Q is P, and one number more
pub record IsWith (P Q : ℕ → Type 0) (i : ℕ) : Type 0 where
  pub up : (j : ℕ) → P j → Q j
  pub split : (j : ℕ) → Q j → P j ⊎ (j ≡ i)
  pub is : Q i
  pub fresh : P i → ⊥

pub more_defaults : (P Q : ℕ → Type 0) (i : ClassId) (d : Defaults) → IsWith P Q (number i) → AreDefaults P d → AreDefaults Q (with_default d i true)
more_defaults P Q i Nothing w h = record { is = w.is; only = λ j q. elim (w.split j q) [ inl p ↦ absurd (h j p) | inr e ↦ e ] }
more_defaults P Q i (One k) w h = record { first = number k; second = number i; apart = λ e. w.fresh (subst P e h.is); one = w.up (number k) h.is; other = w.is }
more_defaults P Q i Many w h = record { first = h.first; second = h.second; apart = h.apart; one = w.up h.first h.one; other = w.up h.second h.other }

lesser_is : (P Q : ℕ → Type 0) (i k : ClassId) (b : Bool) → nat_lt (number k) (number i) ≡ b → IsWith P Q (number i) → IsLeastOf P (number k) → IsLeastOf Q (number (cond b k i))
lesser_is P Q i k true e w h = record {
  is = w.up (number k) h.is;
  least = λ j l q. elim (w.split j q) [ inl p ↦ h.least j l p | inr same ↦ (let m = ltb-true (number k) (number i) e in absurd (omega arith)) ];
}
lesser_is P Q i k false e w h = record {
  is = w.is;
  least = λ j l q. elim (w.split j q) [
    | inl p ↦ elim (cases_lt (number k) (number i)) [
      | inl m ↦ absurd (let t = lt-ltb (number k) (number i) m in cc (e, t))
      | inr m ↦ h.least j (omega arith) p
    ]
    | inr same ↦ absurd (omega arith)
  ];
}

pub more_least : (P Q : ℕ → Type 0) (i : ClassId) (o : Option ClassId) → IsWith P Q (number i) → IsLeast P o → IsLeast Q (Some (lesser o i))
more_least P Q i None w h = record { is = w.is; least = λ j l q. elim (w.split j q) [ inl p ↦ absurd (h j p) | inr same ↦ absurd (omega arith) ] }
more_least P Q i (Some k) w h = lesser_is P Q i k (nat_lt (number k) (number i)) refl w h

-- ---- the sweep

-- one that was visited stands directly above class d, and has an interface that offers a method at or below it
pub record Hides (classes : List ClassInfo) (key : Key) (heights : List ℕ) (c bound d : ℕ) : Type 0 where
  pub from : ℕ
  pub above : IsAbove classes c from
  pub visited : bound ≤ get_or heights from 0
  pub offer : ℕ
  pub is : IsOffer classes key c offer
  pub covers : IsAbove classes offer from
  pub direct : IsDirectlyAbove classes from d

-- of those that P holds of, the ones that were visited
abbrev pub Visited : List ℕ → ℕ → (ℕ → Type 0) → ℕ → Type 0
Visited heights bound P i = P i × (bound ≤ get_or heights i 0)

pub record IsSweptTo (classes : List ClassInfo) (key : Key) (heights : List ℕ) (c bound : ℕ) (hidden : List ℕ) (found : Inherited) : Type 0 where
  pub size : length hidden ≡ 1024
  pub within : bound ≤ length classes
  pub hides : (d : ℕ) → d < length classes → Has hidden (get_or heights d 0) ↔ Hides classes key heights c bound d
  pub defaults : AreDefaults (Visited heights bound (IsDefault classes key c)) found.defaults
  pub least : IsLeast (Visited heights bound (IsOffer classes key c)) found.least

-- what the sweep stands on at its next class
pub record IsNext (classes : List ClassInfo) (order heights : List ℕ) (c bound i : ℕ) : Type 0 where
  pub ranked : AreHeights classes order heights
  pub c_in : c < length classes
  pub above : IsAbove classes c i
  pub lower : get_or heights i 0 < bound
  pub highest : (e : ℕ) → IsAbove classes c e → get_or heights e 0 < bound → get_or heights e 0 ≤ get_or heights i 0

next_in : (classes : List ClassInfo) (order heights : List ℕ) (c bound i : ℕ) → IsNext classes order heights c bound i → i < length classes
next_in classes order heights c bound i n = (no_higher classes order heights c i n.ranked n.c_in n.above).there

-- what stands no lower than the next class was visited, or is that class
visited_split : (classes : List ClassInfo) (order heights : List ℕ) (c bound i e : ℕ) → IsNext classes order heights c bound i → IsAbove classes c e → get_or heights i 0 ≤ get_or heights e 0 → (bound ≤ get_or heights e 0) ⊎ (e ≡ i)
visited_split classes order heights c bound i e n a l = elim (cases_lt (get_or heights e 0) bound) [
  | inl below ↦ (let m = n.highest e a below in inr (same_height classes order heights e i n.ranked (no_higher classes order heights c e n.ranked n.c_in a).there (next_in classes order heights c bound i n) (omega arith)))
  | inr above ↦ inl above
]

-- what stands higher than the next class was visited
visited_above : (classes : List ClassInfo) (order heights : List ℕ) (c bound i e : ℕ) → IsNext classes order heights c bound i → IsAbove classes c e → get_or heights i 0 < get_or heights e 0 → bound ≤ get_or heights e 0
visited_above classes order heights c bound i e n a l = elim (cases_lt (get_or heights e 0) bound) [
  | inl below ↦ (let m = n.highest e a below in absurd (omega arith))
  | inr above ↦ above
]

-- a way to the next class from below it ends with a step from a class that was visited
hides_next : (classes : List ClassInfo) (key : Key) (order heights : List ℕ) (c bound i j : ℕ) → IsNext classes order heights c bound i → IsOffer classes key c j → IsLast classes j i → Hides classes key heights c bound i
hides_next classes key order heights c bound i j n o l =
    let a = above_above classes c j l.from o.above l.way in
    record {
      from = l.from;
      above = a;
      visited = visited_above classes order heights c bound i l.from n a (is_lower classes order heights l.from i n.ranked (no_higher classes order heights c l.from n.ranked n.c_in a).there l.direct).lower;
      offer = j;
      is = o;
      covers = l.way;
      direct = l.direct;
    }

top_is : (classes : List ClassInfo) (key : Key) (order heights : List ℕ) (c bound i : ℕ) → IsNext classes order heights c bound i → IsOffer classes key c i → (Hides classes key heights c bound i → ⊥) → IsTop classes key c i
top_is classes key order heights c bound i n o h = record {
  offer = o;
  top = λ j p a. elim (last_step classes j i a) [ inl same ↦ same | inr l ↦ absurd (h (hides_next classes key order heights c bound i j n p l)) ];
}

no_top : (classes : List ClassInfo) (key : Key) (order heights : List ℕ) (c bound i : ℕ) → IsNext classes order heights c bound i → Hides classes key heights c bound i → IsTop classes key c i → ⊥
no_top classes key order heights c bound i n h t =
    let same = t.top h.offer h.is (by_last classes h.offer h.from i h.covers h.direct) in
    let in_offer = (no_higher classes order heights c h.offer n.ranked n.c_in h.is.above).there in
    let up = no_higher classes order heights h.offer h.from n.ranked in_offer h.covers in
    let l = (is_lower classes order heights h.from i n.ranked up.there h.direct).lower in
    let m = up.height in
    let e = ap (λ k. get_or heights k 0) same in
    omega arith

-- an interface that offers a method stands at the next class or below it
pub record IsCovered (classes : List ClassInfo) (key : Key) (c i : ℕ) : Type 0 where
  pub offer : ℕ
  pub is : IsOffer classes key c offer
  pub covers : IsAbove classes offer i

pub covered : (classes : List ClassInfo) (key : Key) (heights : List ℕ) (c bound i : ℕ) → IsOffer classes key c i ⊎ Hides classes key heights c bound i → IsCovered classes key c i
covered classes key heights c bound i (inl o) = record { offer = i; is = o; covers = itself i }
covered classes key heights c bound i (inr h) = record { offer = h.offer; is = h.is; covers = by_last classes h.offer h.from i h.covers h.direct }

pub not_covered : (classes : List ClassInfo) (key : Key) (order heights : List ℕ) (c bound i : ℕ) → IsNext classes order heights c bound i → (IsOffer classes key c i → ⊥) → (Hides classes key heights c bound i → ⊥) → IsCovered classes key c i → ⊥
not_covered classes key order heights c bound i n o h k = elim (last_step classes k.offer i k.covers) [
  | inl same ↦ o (subst (IsOffer classes key c) same k.is)
  | inr l ↦ h (hides_next classes key order heights c bound i k.offer n k.is l)
]

weaken : (classes : List ClassInfo) (key : Key) (order heights : List ℕ) (c bound i d : ℕ) → IsNext classes order heights c bound i → Hides classes key heights c bound d → Hides classes key heights c (get_or heights i 0) d
weaken classes key order heights c bound i d n h = record { from = h.from; above = h.above; visited = (let l = n.lower in let v = h.visited in omega arith); offer = h.offer; is = h.is; covers = h.covers; direct = h.direct }

-- a class that the next one hides too
split_hides : (classes : List ClassInfo) (key : Key) (order heights : List ℕ) (c bound i d : ℕ) → IsNext classes order heights c bound i → Hides classes key heights c (get_or heights i 0) d → Hides classes key heights c bound d ⊎ (IsCovered classes key c i × IsDirectlyAbove classes i d)
split_hides classes key order heights c bound i d n h = elim (visited_split classes order heights c bound i h.from n h.above h.visited) [
  | inl v ↦ inl (record { from = h.from; above = h.above; visited = v; offer = h.offer; is = h.is; covers = h.covers; direct = h.direct })
  | inr same ↦ inr (record { offer = h.offer; is = h.is; covers = subst (IsAbove classes h.offer) same h.covers }, subst (λ k. IsDirectlyAbove classes k d) same h.direct)
]

pub hides_more : (classes : List ClassInfo) (key : Key) (order heights : List ℕ) (c bound i : ℕ) (old new : List ℕ) → IsNext classes order heights c bound i → IsCovered classes key c i → Adds old new (IsHeightOfDirect classes heights i) → ((d : ℕ) → d < length classes → Has old (get_or heights d 0) ↔ Hides classes key heights c bound d) → (d : ℕ) → d < length classes → Has new (get_or heights d 0) ↔ Hides classes key heights c (get_or heights i 0) d
hides_more classes key order heights c bound i old new n k add h d l = (forth, back) where
  forth : Has new (get_or heights d 0) → Hides classes key heights c (get_or heights i 0) d
  forth p = elim ((add.each (get_or heights d 0)).0 p) [
    | inl a ↦ weaken classes key order heights c bound i d n ((h d l).0 a)
    | inr b ↦ (let there = (is_lower classes order heights i b.class n.ranked (next_in classes order heights c bound i n) b.direct).there in
        let same = same_height classes order heights d b.class n.ranked l there b.height in
        record { from = i; above = n.above; visited = omega arith; offer = k.offer; is = k.is; covers = k.covers; direct = subst (IsDirectlyAbove classes i) (sym same) b.direct })
  ]

  back : Hides classes key heights c (get_or heights i 0) d → Has new (get_or heights d 0)
  back q = elim (split_hides classes key order heights c bound i d n q) [
    | inl a ↦ (add.each (get_or heights d 0)).1 (inl ((h d l).1 a))
    | inr b ↦ (add.each (get_or heights d 0)).1 (inr (record { class = d; direct = b.1; height = refl }))
  ]

pub hides_same : (classes : List ClassInfo) (key : Key) (order heights : List ℕ) (c bound i : ℕ) (old : List ℕ) → IsNext classes order heights c bound i → (IsCovered classes key c i → ⊥) → ((d : ℕ) → d < length classes → Has old (get_or heights d 0) ↔ Hides classes key heights c bound d) → (d : ℕ) → d < length classes → Has old (get_or heights d 0) ↔ Hides classes key heights c (get_or heights i 0) d
hides_same classes key order heights c bound i old n k h d l = (λ p. weaken classes key order heights c bound i d n ((h d l).0 p), λ q. elim (split_hides classes key order heights c bound i d n q) [ inl a ↦ (h d l).1 a | inr b ↦ absurd (k b.0) ])

-- what was found stays where the next class adds nothing, and has it where it adds something
keep_visited : (classes : List ClassInfo) (order heights : List ℕ) (c bound i : ℕ) (P : ℕ → Type 0) → IsNext classes order heights c bound i → ((j : ℕ) → P j → IsAbove classes c j) → (P i → ⊥) → ((j : ℕ) → Visited heights bound P j → Visited heights (get_or heights i 0) P j) × ((j : ℕ) → Visited heights (get_or heights i 0) P j → Visited heights bound P j)
keep_visited classes order heights c bound i P n a never = (λ j p. (p.0, (let l = n.lower in let v = p.1 in omega arith)), λ j p. (p.0, elim (visited_split classes order heights c bound i j n (a j p.0) p.1) [ inl v ↦ v | inr same ↦ absurd (never (subst P same p.0)) ]))

add_visited : (classes : List ClassInfo) (order heights : List ℕ) (c bound i : ℕ) (P : ℕ → Type 0) → IsNext classes order heights c bound i → ((j : ℕ) → P j → IsAbove classes c j) → P i → IsWith (Visited heights bound P) (Visited heights (get_or heights i 0) P) i
add_visited classes order heights c bound i P n a p = record {
  up = λ j q. (q.0, (let l = n.lower in let v = q.1 in omega arith));
  split = λ j q. elim (visited_split classes order heights c bound i j n (a j q.0) q.1) [ inl v ↦ inl (q.0, v) | inr same ↦ inr same ];
  is = (p, omega arith);
  fresh = λ q. (let l = n.lower in let v = q.1 in omega arith);
}

offer_above : (classes : List ClassInfo) (key : Key) (c j : ℕ) → IsOffer classes key c j → IsAbove classes c j
offer_above classes key c j o = o.above

default_above : (classes : List ClassInfo) (key : Key) (c j : ℕ) → IsDefault classes key c j → IsAbove classes c j
default_above classes key c j d = d.top.offer.above

-- what the next class offers, and whether it is hidden
abbrev pub OffersThere : List ClassInfo → Key → ℕ → ℕ → Option ℕ → Type 0
OffersThere classes key c i None = IsOffer classes key c i → ⊥
OffersThere classes key c i (Some flags) = IsOffer classes key c i × (method_flags classes key i ≡ Some flags)

pub defaults_next : (classes : List ClassInfo) (key : Key) (order heights : List ℕ) (c bound : ℕ) (i : ClassId) (found : Inherited) (offered : Option ℕ) (hidden : Bool) → IsNext classes order heights c bound (number i) → OffersThere classes key c (number i) offered → ((hidden ≡ true) ↔ Hides classes key heights c bound (number i)) → AreDefaults (Visited heights bound (IsDefault classes key c)) found.defaults → AreDefaults (Visited heights (get_or heights (number i) 0) (IsDefault classes key c)) (with_offered found i offered hidden).defaults
defaults_next classes key order heights c bound i found None hidden n o h d = same (λ x. o x.top.offer) where
  same : (IsDefault classes key c (number i) → ⊥) → AreDefaults (Visited heights (get_or heights (number i) 0) (IsDefault classes key c)) found.defaults
  same never = (let k = keep_visited classes order heights c bound (number i) (IsDefault classes key c) n (default_above classes key c) never in map_defaults (Visited heights bound (IsDefault classes key c)) (Visited heights (get_or heights (number i) 0) (IsDefault classes key c)) k.0 k.1 found.defaults d)
defaults_next classes key order heights c bound i found (Some flags) true n o h d =
    let k = keep_visited classes order heights c bound (number i) (IsDefault classes key c) n (default_above classes key c) (λ x. no_top classes key order heights c bound (number i) n (h.0 refl) x.top) in
    map_defaults (Visited heights bound (IsDefault classes key c)) (Visited heights (get_or heights (number i) 0) (IsDefault classes key c)) k.0 k.1 found.defaults d
defaults_next classes key order heights c bound i found (Some flags) false n o h d = go (is_abstract flags) refl where
  go : (b : Bool) → is_abstract flags ≡ b → AreDefaults (Visited heights (get_or heights (number i) 0) (IsDefault classes key c)) (with_default found.defaults i (not b))
  go true e =
      let k = keep_visited classes order heights c bound (number i) (IsDefault classes key c) n (default_above classes key c) (λ x. clash (x.concrete flags o.1) e) in
      map_defaults (Visited heights bound (IsDefault classes key c)) (Visited heights (get_or heights (number i) 0) (IsDefault classes key c)) k.0 k.1 found.defaults d where
        clash : is_abstract flags ≡ false → is_abstract flags ≡ true → ⊥
        clash a b = cc
  go false e = more_defaults (Visited heights bound (IsDefault classes key c)) (Visited heights (get_or heights (number i) 0) (IsDefault classes key c)) i found.defaults
      (add_visited classes order heights c bound (number i) (IsDefault classes key c) n (default_above classes key c) (record {
        top = top_is classes key order heights c bound (number i) n o.0 (λ x. clash (h.1 x));
        concrete = λ f g. subst (λ x. is_abstract x ≡ false) (same_Some flags f (sym o.1 ∙ g)) e;
      })) d where
        clash : false ≡ true → ⊥
        clash e = cc

pub least_next : (classes : List ClassInfo) (key : Key) (order heights : List ℕ) (c bound : ℕ) (i : ClassId) (found : Inherited) (offered : Option ℕ) (hidden : Bool) → IsNext classes order heights c bound (number i) → OffersThere classes key c (number i) offered → IsLeast (Visited heights bound (IsOffer classes key c)) found.least → IsLeast (Visited heights (get_or heights (number i) 0) (IsOffer classes key c)) (with_offered found i offered hidden).least
least_next classes key order heights c bound i found None hidden n o d =
    let k = keep_visited classes order heights c bound (number i) (IsOffer classes key c) n (offer_above classes key c) o in
    map_least (Visited heights bound (IsOffer classes key c)) (Visited heights (get_or heights (number i) 0) (IsOffer classes key c)) k.0 k.1 found.least d
least_next classes key order heights c bound i found (Some flags) hidden n o d =
    more_least (Visited heights bound (IsOffer classes key c)) (Visited heights (get_or heights (number i) 0) (IsOffer classes key c)) i found.least (add_visited classes order heights c bound (number i) (IsOffer classes key c) n (offer_above classes key c) o.0) d

-- ---- its ends

pub swept_none : (classes : List ClassInfo) (key : Key) (order heights : List ℕ) (c : ℕ) (found : Inherited) → AreHeights classes order heights → c < length classes → found.defaults ≡ Nothing → found.least ≡ None → (hidden : List ℕ) → length hidden ≡ 1024 → ((h : ℕ) → Has hidden h → ⊥) → IsSweptTo classes key heights c (length classes) hidden found
swept_none classes key order heights c found r k e f hidden size none = record {
  size = size;
  within = omega arith;
  hides = λ d l. (λ p. absurd (none (get_or heights d 0) p), λ q. absurd (early q.from q.above q.visited));
  defaults = subst (AreDefaults (Visited heights (length classes) (IsDefault classes key c))) (sym e) (λ i p. early i p.0.top.offer.above p.1);
  least = subst (IsLeast (Visited heights (length classes) (IsOffer classes key c))) (sym f) (λ i p. early i p.0.above p.1);
} where
  early : (e : ℕ) → IsAbove classes c e → length classes ≤ get_or heights e 0 → ⊥
  early e a l = (let w = height_within classes order heights e r (no_higher classes order heights c e r k a).there in omega arith)

-- all were visited
all_visited : (classes : List ClassInfo) (heights : List ℕ) (c bound : ℕ) (P : ℕ → Type 0) → ((e : ℕ) → IsAbove classes c e → get_or heights e 0 < bound → ⊥) → ((j : ℕ) → P j → IsAbove classes c j) → (j : ℕ) → P j → Visited heights bound P j
all_visited classes heights c bound P none a j p = (p, elim (cases_lt (get_or heights j 0) bound) [ inl below ↦ absurd (none j (a j p) below) | inr above ↦ above ])

pub defaults_all : (classes : List ClassInfo) (key : Key) (heights : List ℕ) (c bound : ℕ) (d : Defaults) → ((e : ℕ) → IsAbove classes c e → get_or heights e 0 < bound → ⊥) → AreDefaults (Visited heights bound (IsDefault classes key c)) d → AreDefaults (IsDefault classes key c) d
defaults_all classes key heights c bound d none h = map_defaults (Visited heights bound (IsDefault classes key c)) (IsDefault classes key c) (λ i p. p.0) (all_visited classes heights c bound (IsDefault classes key c) none (default_above classes key c)) d h

pub least_all : (classes : List ClassInfo) (key : Key) (heights : List ℕ) (c bound : ℕ) (o : Option ClassId) → ((e : ℕ) → IsAbove classes c e → get_or heights e 0 < bound → ⊥) → IsLeast (Visited heights bound (IsOffer classes key c)) o → IsLeast (IsOffer classes key c) o
least_all classes key heights c bound o none h = map_least (Visited heights bound (IsOffer classes key c)) (IsOffer classes key c) (λ i p. p.0) (all_visited classes heights c bound (IsOffer classes key c) none (offer_above classes key c)) o h
