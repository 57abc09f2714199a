use Rattle.std.proofs.Common.{◌≡◌, ◌∙◌, ℕ, ◌<◌, Bool, true, false, ◌||◌, List, length, get_or, replicate, Option, Some, None, refl, sym, ap, subst, arith, inl, inr, ◌↔◌}
use Rattle.std.specs.Prelude.{IfSome, IfNone, is_some, IsTrue}
use Rattle.std.specs.Bool.{OnTrue, OnFalse}
use Rattle.std.proofs.lemmas.List.{length-replicate}
use Rattle.wf_base.specs.declared.ids.ClassId.{ClassId}
use Rattle.wf_data.specs.declared.class_info.ClassInfo.{ClassInfo}
use Rattle.wf_grammar.specs.ClassFile.{Key}
use Rattle.wf_classes.specs.World.{AreHeights, number}
use Rattle.wf_classes.specs.Above.{ClassesAbove, IsAbove, IsHighest, IsHighestBelow, Has, Adds, IsHeightOfDirect}
use Rattle.wf_classes.specs.Own.{method_flags}
use Rattle.wf_classes.proofs.Sweep.{empty_has_none}
use Rattle.wf_resolve.specs.Inherited.{IsOffer, IsDefault, AreDefaults, IsLeast, with_offered}
use Rattle.wf_resolve.specs.declared.superinterfaces.Inherited.{Inherited}
use Rattle.wf_resolve.specs.declared.superinterfaces.Defaults.TheVariants.{Nothing}
use Rattle.wf_resolve.proofs.Climbing.{no_higher, height_within}
use Rattle.wf_resolve.proofs.InterfaceSweep.{IsSweptTo, Visited, IsNext, Hides, OffersThere, swept_none, covered, not_covered, hides_more, hides_same, defaults_next, least_next, defaults_all, least_all}
use Rattle.wf_resolve.proofs.superinterfaces.from_interfaces.Goals as goal

-- ---- of what the calls say

next_from : (a : ClassesAbove) (classes : List ClassInfo) (c bound i : ℕ) → a.classes ≡ classes → a.class ≡ c → AreHeights a.classes a.order a.heights → c < length classes → IsHighest a bound i → IsNext classes a.order a.heights c bound i
next_from a classes c bound i e f r k h = record {
  ranked = subst (λ (xs : List ClassInfo). AreHeights xs a.order a.heights) e r;
  c_in = k;
  above = subst (λ (xs : List ClassInfo). IsAbove xs c i) e (subst (λ n. IsAbove a.classes n i) f h.is.is);
  lower = h.is.lower;
  highest = λ x w l. h.highest x (record { is = subst (λ n. IsAbove a.classes n x) (sym f) (subst (λ (xs : List ClassInfo). IsAbove xs c x) (sym e) w); lower = l });
}

none_below : (a : ClassesAbove) (classes : List ClassInfo) (c bound : ℕ) → a.classes ≡ classes → a.class ≡ c → (o : Option ClassId) → IsHighestBelow a bound o → ((i : ClassId) → o ≡ Some i → ⊥) → (x : ℕ) → IsAbove classes c x → get_or a.heights x 0 < bound → ⊥
none_below a classes c bound e f (Some i) h never x w l = never i refl
none_below a classes c bound e f None h never x w l = h x (record { is = subst (λ n. IsAbove a.classes n x) (sym f) (subst (λ (xs : List ClassInfo). IsAbove xs c x) (sym e) w); lower = l })

offers_from : (classes : List ClassInfo) (key : Key) (c i : ℕ) (o : Option ℕ) → IfSome o (λ flags. IsOffer classes key c i) → IfSome o (λ flags. method_flags classes key i ≡ Some flags) → IfNone o (IsOffer classes key c i → ⊥) → OffersThere classes key c i o
offers_from classes key c i None a b d = d
offers_from classes key c i (Some flags) a b d = (a, b)

hides_from : (classes : List ClassInfo) (key : Key) (order heights : List ℕ) (c bound i : ℕ) (old new : List ℕ) (o : Option ℕ) (hidden cover : Bool) → IsNext classes order heights c bound i → OffersThere classes key c i o → ((hidden ≡ true) ↔ Hides classes key heights c bound i) → cover ≡ (is_some o || hidden) → OnTrue cover (Adds old new (IsHeightOfDirect classes heights i)) → OnFalse cover (new ≡ old) → ((d : ℕ) → d < length classes → Has old (get_or heights d 0) ↔ Hides classes key heights c bound d) → (d : ℕ) → d < length classes → Has new (get_or heights d 0) ↔ Hides classes key heights c (get_or heights i 0) d
hides_from classes key order heights c bound i old new (Some flags) hidden true n o h e add same was = hides_more classes key order heights c bound i old new n (covered classes key heights c bound i (inl o.0)) add was
hides_from classes key order heights c bound i old new (Some flags) hidden false n o h e add same was = absurd cc
hides_from classes key order heights c bound i old new None true true n o h e add same was = hides_more classes key order heights c bound i old new n (covered classes key heights c bound i (inr (h.0 refl))) add was
hides_from classes key order heights c bound i old new None true false n o h e add same was = absurd cc
hides_from classes key order heights c bound i old new None false true n o h e add same was = absurd cc
hides_from classes key order heights c bound i old new None false false n o h e add same was =
    subst (λ (bits : List ℕ). (d : ℕ) → d < length classes → Has bits (get_or heights d 0) ↔ Hides classes key heights c (get_or heights i 0) d) (sym same)
    (hides_same classes key order heights c bound i old n (not_covered classes key order heights c bound i n o (λ x. clash (h.1 x))) was) where
      clash : false ≡ true → ⊥
      clash e = cc

size_from : (old new : List ℕ) (cover : Bool) (P : ℕ → Type 0) → OnTrue cover (Adds old new P) → OnFalse cover (new ≡ old) → length new ≡ length old
size_from old new true P add same = add.same_length
size_from old new false P add same = ap length same

-- one more class is visited
visit : (classes : List ClassInfo) (key : Key) (order heights : List ℕ) (c bound : ℕ) (i : ClassId) (old new : List ℕ) (found result : Inherited) (o : Option ℕ) (hidden cover : Bool) → IsNext classes order heights c bound (number i) → IsSweptTo classes key heights c bound old found → OffersThere classes key c (number i) o → (IsTrue hidden ↔ Has old (get_or heights (number i) 0)) → cover ≡ (is_some o || hidden) → OnTrue cover (Adds old new (IsHeightOfDirect classes heights (number i))) → OnFalse cover (new ≡ old) → result ≡ with_offered found i o hidden → IsSweptTo classes key heights c (get_or heights (number i) 0) new result
visit classes key order heights c bound i old new found result o hidden cover n w offers marked e add same is =
    let in_there = (no_higher classes order heights c (number i) n.ranked n.c_in n.above).there in
    let m = w.hides (number i) in_there in
    let hides : (hidden ≡ true) ↔ Hides classes key heights c bound (number i) = (λ t. m.0 (marked.0 t), λ x. marked.1 (m.1 x)) in
    record {
      size = size_from old new cover (IsHeightOfDirect classes heights (number i)) add same ∙ w.size;
      within = (let h = height_within classes order heights (number i) n.ranked in_there in omega arith);
      hides = hides_from classes key order heights c bound (number i) old new o hidden cover n offers hides e add same w.hides;
      defaults = subst (λ (r : Inherited). AreDefaults (Visited heights (get_or heights (number i) 0) (IsDefault classes key c)) r.defaults) (sym is) (defaults_next classes key order heights c bound i found o hidden n offers hides w.defaults);
      least = subst (λ (r : Inherited). IsLeast (Visited heights (get_or heights (number i) 0) (IsOffer classes key c)) r.least) (sym is) (least_next classes key order heights c bound i found o hidden n offers w.least);
    }

-- the same heights by the names of the two calls
next_by : (a : ClassesAbove) (classes : List ClassInfo) (heights : List ℕ) (c bound i : ℕ) → a.classes ≡ classes → a.class ≡ c → heights ≡ a.heights → AreHeights a.classes a.order a.heights → c < length classes → IsHighest a bound i → IsNext classes a.order heights c bound i
next_by a classes heights c bound i e f g r k h = subst (λ (hs : List ℕ). IsNext classes a.order hs c bound i) (sym g) (next_from a classes c bound i e f r k h)

-- ---- answers

pub sweep-init : goal.sweep-init
sweep-init c =
    let classes = c.args.classes.now in
    let a = c.above-above.result in
    let key : Key = (c.args.name.now, c.args.desc.now) in
    let ranked = subst (λ (xs : List ClassInfo). AreHeights xs a.order a.heights) c.above-above.ensures.classes c.heights-ranks.ensures.ranked in
    let size : c.len-bound.result ≡ length classes = c.len-bound.ensures ∙ ap length c.list.ensures.same in
    let none : Inherited = record { defaults = Nothing; least = None } in
    subst (λ b. IsSweptTo classes key a.heights c.args.c.0 b (replicate 1024 0) none) (sym size)
    (swept_none classes key a.order a.heights c.args.c.0 none ranked c.requires refl refl (replicate 1024 0) (length-replicate {A = ℕ} 1024 0) (λ h. empty_has_none 1024 h))

pub bounds-ranks-i : goal.bounds-ranks-i
bounds-ranks-i c =
    let a = c.above-above.result in
    let n = next_from a c.args.classes.now c.args.c.0 c.sweep.bound c.in-Some.i.0 c.above-above.ensures.classes c.above-above.ensures.class c.heights-ranks.ensures.ranked c.requires c.in-Some.ensures in
    let t = (no_higher c.args.classes.now a.order a.heights c.args.c.0 c.in-Some.i.0 n.ranked c.requires n.above).there in
    omega (arith, t, n.ranked.counted, ap length c.heights-ranks.ensures.heights)

pub offer-offered-requires-clause-i_in : goal.offer-offered-requires-clause-i_in
offer-offered-requires-clause-i_in c =
    let a = c.above-above.result in
    let n = next_from a c.args.classes.now c.args.c.0 c.sweep.bound c.in-Some.i.0 c.above-above.ensures.classes c.above-above.ensures.class c.heights-ranks.ensures.ranked c.requires c.in-Some.ensures in
    (no_higher c.args.classes.now a.order a.heights c.args.c.0 c.in-Some.i.0 n.ranked c.requires n.above).there

pub hide-requires-clause-inside : goal.hide-requires-clause-inside
hide-requires-clause-inside c =
    let a = c.above-above.result in
    let n = next_from a c.args.classes.now c.args.c.0 c.sweep.bound c.in-Some.i.0 c.above-above.ensures.classes c.above-above.ensures.class c.heights-ranks.ensures.ranked c.requires c.in-Some.ensures in
    (no_higher c.args.classes.now a.order a.heights c.args.c.0 c.in-Some.i.0 n.ranked c.requires n.above).there

pub hide-requires-clause-room : goal.hide-requires-clause-room
hide-requires-clause-room c = λ d l.
    (let classes = c.args.classes.now in
    let a = c.above-above.result in
    let hs = c.heights-ranks.result.heights.now in
    let ranked = subst (λ (hs : List ℕ). AreHeights classes a.order hs) (sym c.heights-ranks.ensures.heights) (subst (λ (xs : List ClassInfo). AreHeights xs a.order a.heights) c.above-above.ensures.classes c.heights-ranks.ensures.ranked) in
    let w = height_within classes a.order hs d ranked (omega (arith, l, ranked.counted)) in
    omega (arith, w, c.list.ensures.world.limits.count, c.sweep.invariant.size))

pub sweep-preserved : goal.sweep-preserved
sweep-preserved c =
    let classes = c.args.classes.now in
    let a = c.above-above.result in
    let key : Key = (c.args.name.now, c.args.desc.now) in
    let hs = c.heights-ranks.result.heights.now in
    let e = c.heights-ranks.ensures.heights in
    let n = next_by a classes hs c.args.c.0 c.sweep.bound c.in-Some.i.0 c.above-above.ensures.classes c.above-above.ensures.class e c.heights-ranks.ensures.ranked c.requires c.in-Some.ensures in
    let was = subst (λ (hs : List ℕ). IsSweptTo classes key hs c.args.c.0 c.sweep.bound c.sweep.hidden c.sweep.found) (sym e) c.sweep.invariant in
    let offers = offers_from classes key c.args.c.0 c.in-Some.i.0 c.offer-offered.result c.offer-offered.ensures.some c.offer-offered.ensures.flags c.offer-offered.ensures.none in
    subst (λ (xs : List ℕ). IsSweptTo classes key xs c.args.c.0 (get_or hs c.in-Some.i.0 0) c.hide.new.hidden c.with_offered-found.result) e
    (visit classes key a.order hs c.args.c.0 c.sweep.bound c.in-Some.i c.sweep.hidden c.hide.new.hidden c.sweep.found c.with_offered-found.result c.offer-offered.result c.has-is_hidden.result c.covers.result n was offers c.has-is_hidden.ensures c.covers.ensures c.hide.ensures.added c.hide.ensures.same c.with_offered-found.ensures)

pub returns-clause-defaults : goal.returns-clause-defaults
returns-clause-defaults c =
    defaults_all c.args.classes.now (c.args.name.now, c.args.desc.now) c.above-above.result.heights c.args.c.0 c.sweep.bound c.sweep.found.defaults
    (none_below c.above-above.result c.args.classes.now c.args.c.0 c.sweep.bound c.above-above.ensures.classes c.above-above.ensures.class c.highest_below.result c.highest_below.ensures c.in_default.not-Some)
    c.sweep.invariant.defaults

pub returns-clause-least : goal.returns-clause-least
returns-clause-least c =
    least_all c.args.classes.now (c.args.name.now, c.args.desc.now) c.above-above.result.heights c.args.c.0 c.sweep.bound c.sweep.found.least
    (none_below c.above-above.result c.args.classes.now c.args.c.0 c.sweep.bound c.above-above.ensures.classes c.above-above.ensures.class c.highest_below.result c.highest_below.ensures c.in_default.not-Some)
    c.sweep.invariant.least
