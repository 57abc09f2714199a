use Rattle.std.proofs.Common.{◌≡◌, ◌∙◌, ℕ, true, false, ◌+◌, List, get_or, Some, None, sym, subst, refl, arith, inl, inr}
use Rattle.wf_base.specs.declared.ids.ClassId.{ClassId}
use Rattle.wf_data.specs.declared.class_info.ClassInfo.{ClassInfo}
use Rattle.wf_grammar.specs.ClassFile.{Key}
use Rattle.wf_classes.specs.Above.{IsAbove}
use Rattle.wf_classes.specs.World.{number}
use Rattle.wf_resolve.specs.Upward.{FirstUp, found, passed, ended}
use Rattle.wf_resolve.specs.Upward.{Offers}
use Rattle.wf_resolve.specs.declared.upward.Wanted.TheVariants.{Overriding}
use Rattle.wf_resolve.proofs.Climbing.{above_above}
use Rattle.wf_select.specs.Overriding.{Overrides, itself, of_open}
use Rattle.wf_select.proofs.OverridingLaws.{first_none, one_or_candidate, overrides_above}
use Rattle.wf_select.proofs.overriding.first_of_open.Goals as goal

clash : false ≡ true → ⊥
clash e = cc

pub returns-then-are_one-clause-first : goal.returns-then-are_one-clause-first
returns-then-are_one-clause-first c =
    let key : Key = (c.args.name.now, c.args.desc.now) in
    let a = number c.args.a.class in
    let P = λ (x : ℕ). Overrides c.args.classes.now key x a in
    let own : FirstUp c.args.classes.now P a (Some a) = found a (itself a c.args.a.flags (record { there = c.requires.own.flagged; of_instance = c.requires.of_instance })) in
    c.upward.invariant.first (Some a) (subst (λ n. FirstUp c.args.classes.now P n (Some a)) (sym (c.if-are_one.ensures.0 refl)) own)

pub returns-then-holds-clause-first : goal.returns-then-holds-clause-first
returns-then-holds-clause-first c =
    let classes = c.args.classes.now in
    let key : Key = (c.args.name.now, c.args.desc.now) in
    let a = number c.args.a.class in
    let d = c.upward.d.0 in
    let P = λ (x : ℕ). Overrides classes key x a in
    let above = subst (λ (xs : List ClassInfo). IsAbove xs d a) c.above.ensures.classes (subst (λ n. IsAbove c.above.result.classes n a) c.above.ensures.class (c.holds.ensures.0 c.if-holds.true)) in
    let over = of_open d a c.args.a.flags (record { offers = c.in-Some.ensures.some; above = above; other = λ same. clash (c.if-are_one.ensures.1 same) }) (record { there = c.requires.own.flagged; of_instance = c.requires.of_instance }) c.requires.opens in
    subst (λ (k : ClassId). FirstUp classes P c.args.t.0 (Some (number k))) (sym c.in-Some.ensures.class) (c.upward.invariant.first (Some d) (found d over))

pub returns-else-holds-clause-first : goal.returns-else-holds-clause-first
returns-else-holds-clause-first c =
    let classes = c.args.classes.now in
    let key : Key = (c.args.name.now, c.args.desc.now) in
    let a = number c.args.a.class in
    let d = c.upward.d.0 in
    let P = λ (x : ℕ). Overrides classes key x a in
    let heights = c.heights-ranks.result.heights.now in
    c.upward.invariant.first None (first_none classes c.heights-ranks.result.order.now heights P (get_or heights d 0 + 1) d c.heights-ranks.ensures c.upward.invariant.in_there (omega arith)
    (λ x way p. (let under = above_above classes d x a way (overrides_above classes key x a p) in
    clash (sym c.if-holds.false ∙ c.holds.ensures.1 (subst (λ n. IsAbove c.above.result.classes n a) (sym c.above.ensures.class) (subst (λ (xs : List ClassInfo). IsAbove xs d a) (sym c.above.ensures.classes) under))))))

none_here : (classes : List ClassInfo) (key : Key) (d a : ℕ) → (d ≡ a → ⊥) → (Offers classes key Overriding d → ⊥) → Overrides classes key d a → ⊥
none_here classes key d a other none h = elim (one_or_candidate classes key d a h) [ inl same ↦ other same | inr k ↦ none k.offers ]

pub upward-preserved : goal.upward-preserved
upward-preserved c = record {
  in_there = c.in-Some-superclass_below.ensures.there;
  first = λ r h. c.upward.invariant.first r (passed c.upward.d.0 c.in-Some-superclass_below.s.0 r
      (none_here c.args.classes.now (c.args.name.now, c.args.desc.now) c.upward.d.0 (number c.args.a.class) (λ same. clash (c.if-are_one.ensures.1 same)) c.in-None.ensures.none)
      (sym c.in-Some-superclass_below.ensures.number) h);
}

pub returns-in-None-superclass_below-clause-first : goal.returns-in-None-superclass_below-clause-first
returns-in-None-superclass_below-clause-first c =
    c.upward.invariant.first None (ended c.upward.d.0
    (none_here c.args.classes.now (c.args.name.now, c.args.desc.now) c.upward.d.0 (number c.args.a.class) (λ same. clash (c.if-are_one.ensures.1 same)) c.in-None.ensures.none)
    (sym c.in-None-superclass_below.ensures.number))
