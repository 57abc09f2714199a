use Rattle.std.proofs.Common.{◌≡◌, ◌∙◌, ℕ, ◌+◌, true, false, List, get_or, sym, subst, refl, arith}
use Rattle.wf_data.specs.declared.class_info.ClassInfo.{ClassInfo}
use Rattle.wf_grammar.specs.ClassFile.{Key}
use Rattle.wf_classes.specs.Above.{IsAbove, Has, superclass, itself}
use Rattle.wf_classes.specs.World.{number}
use Rattle.wf_resolve.specs.Reaching.{AreReaching}
use Rattle.wf_resolve.proofs.Climbing.{above_above, by_last, height_within}
use Rattle.wf_resolve.proofs.Ranks.{is_lower}
use Rattle.wf_select.specs.Overriding.{Overrides}
use Rattle.wf_select.proofs.OverridingLaws.{first_none, overrides_above}
use Rattle.wf_select.proofs.PackageWalk.{IsPast, walked_none, past, walk_on, walk_ends, known_is}
use Rattle.wf_select.proofs.overriding.first_of_package.Goals as goal

clash : false ≡ true → ⊥
clash e = cc

-- what is marked is under class a, and the other way round
under_of : (classes : List ClassInfo) (heights bits : List ℕ) (a t d : ℕ) → AreReaching classes heights (λ x. a ≡ x) t bits → IsAbove classes t d → Has bits (get_or heights d 0) → IsAbove classes d a
under_of classes heights bits a t d are way h = (let r = (are.each d way).0 h in subst (IsAbove classes d) (sym r.is) r.above)

marked_of : (classes : List ClassInfo) (heights bits : List ℕ) (a t d : ℕ) → AreReaching classes heights (λ x. a ≡ x) t bits → IsAbove classes t d → IsAbove classes d a → Has bits (get_or heights d 0)
marked_of classes heights bits a t d are way u = (are.each d way).1 (record { end = a; above = u; is = refl })

pub has-requires : goal.has-requires
has-requires c =
    let w = height_within c.args.classes.now c.heights-ranks.result.order.now c.heights-ranks.result.heights.now c.args.t.0 c.heights-ranks.ensures c.requires.t_in in
    omega (arith, w, c.list.ensures.world.limits.count, c.reaching-bits.ensures.size)

pub next_marked-requires-clause-room : goal.next_marked-requires-clause-room
next_marked-requires-clause-room c = λ d l.
    (let w = height_within c.args.classes.now c.heights-ranks.result.order.now c.heights-ranks.result.heights.now d c.heights-ranks.ensures l in
    omega (arith, w, c.list.ensures.world.limits.count, c.reaching-bits.ensures.size))

pub upward-init : goal.upward-init
upward-init c =
    let a = number c.args.a.class in
    walked_none c.args.classes.now (c.args.name.now, c.args.desc.now) a c.args.t.0 c.requires.t_in
    (under_of c.args.classes.now c.heights-ranks.result.heights.now c.reaching-bits.result a c.args.t.0 c.args.t.0 c.reaching-bits.ensures (itself c.args.t.0) (c.has.ensures.0 c.if-not-has.false))

pub returns-then-not-has-clause-first : goal.returns-then-not-has-clause-first
returns-then-not-has-clause-first c =
    let classes = c.args.classes.now in
    let heights = c.heights-ranks.result.heights.now in
    let a = number c.args.a.class in
    let t = c.args.t.0 in
    let key : Key = (c.args.name.now, c.args.desc.now) in
    first_none classes c.heights-ranks.result.order.now heights (λ x. Overrides classes key x a) (get_or heights t 0 + 1) t c.heights-ranks.ensures c.requires.t_in (omega arith)
    (λ x way h. clash (sym c.if-not-has.true ∙ c.has.ensures.1 (marked_of classes heights c.reaching-bits.result a t t c.reaching-bits.ensures (itself t) (above_above classes t x a way (overrides_above classes key x a h)))))

pub returns-in-Some-clause-first : goal.returns-in-Some-clause-first
returns-in-Some-clause-first c =
    let a = number c.args.a.class in
    known_is c.args.classes.now c.heights-ranks.result.order.now c.heights-ranks.result.heights.now (c.args.name.now, c.args.desc.now) a c.args.t.0 c.upward.d.0 c.args.a.flags c.upward.passed c.args.a c.in-Some.method c.look_at-at.result c.heights-ranks.ensures c.requires.a_in refl
    (record { there = c.requires.own.flagged; of_instance = c.requires.of_instance }) c.requires.of_package c.upward.invariant c.look_at-at.ensures (sym c.known.ensures ∙ c.in-Some.is)

pub upward-smaller : goal.upward-smaller
upward-smaller c =
    (is_lower c.args.classes.now c.heights-ranks.result.order.now c.heights-ranks.result.heights.now c.upward.d.0 c.in-Some-next_marked.s.0 c.heights-ranks.ensures c.upward.invariant.in_there
    (superclass c.in-Some-next_marked.s.0 c.in-Some-next_marked.ensures.above)).lower

pub upward-preserved : goal.upward-preserved
upward-preserved c =
    let classes = c.args.classes.now in
    let order = c.heights-ranks.result.order.now in
    let heights = c.heights-ranks.result.heights.now in
    let a = number c.args.a.class in
    let d = c.upward.d.0 in
    let s = c.in-Some-next_marked.s.0 in
    let key : Key = (c.args.name.now, c.args.desc.now) in
    let w = c.upward.invariant in
    let p = past classes order heights key a c.args.t.0 d c.args.a.flags c.upward.passed c.args.a c.look_at-at.result c.heights-ranks.ensures
    (record { there = c.requires.own.flagged; of_instance = c.requires.of_instance }) c.requires.of_package w c.look_at-at.ensures (sym c.known.ensures ∙ c.in-None.is) in
    let q = subst (IsPast classes key a c.args.t.0 d) (sym c.with_passed-passed.ensures) p in
    let e = c.in-Some-next_marked.ensures.above in
    walk_on classes order heights key a c.args.t.0 d s c.with_passed-passed.result c.heights-ranks.ensures w.in_there w.way q e
    (under_of classes heights c.reaching-bits.result a c.args.t.0 s c.reaching-bits.ensures (by_last classes c.args.t.0 d s w.way (superclass s e)) c.in-Some-next_marked.ensures.marked)

pub returns-in-None-next_marked-clause-first : goal.returns-in-None-next_marked-clause-first
returns-in-None-next_marked-clause-first c =
    let classes = c.args.classes.now in
    let order = c.heights-ranks.result.order.now in
    let heights = c.heights-ranks.result.heights.now in
    let a = number c.args.a.class in
    let d = c.upward.d.0 in
    let key : Key = (c.args.name.now, c.args.desc.now) in
    let w = c.upward.invariant in
    let p = past classes order heights key a c.args.t.0 d c.args.a.flags c.upward.passed c.args.a c.look_at-at.result c.heights-ranks.ensures
    (record { there = c.requires.own.flagged; of_instance = c.requires.of_instance }) c.requires.of_package w c.look_at-at.ensures (sym c.known.ensures ∙ c.in-None.is) in
    let q = subst (IsPast classes key a c.args.t.0 d) (sym c.with_passed-passed.ensures) p in
    walk_ends classes order heights key a c.args.t.0 d c.with_passed-passed.result c.heights-ranks.ensures w.in_there q
    (λ s e u. c.in-None-next_marked.ensures s (record { above = e; marked = marked_of classes heights c.reaching-bits.result a c.args.t.0 s c.reaching-bits.ensures (by_last classes c.args.t.0 d s w.way (superclass s e)) u }))
