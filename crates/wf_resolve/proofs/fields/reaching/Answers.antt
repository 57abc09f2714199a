use Rattle.std.proofs.Common.{◌≡◌, ◌+◌, ℕ, get_or, replicate, sym, subst, arith, ◌↔◌}
use Rattle.std.specs.Prelude.{IsTrue}
use Rattle.std.proofs.lemmas.List.{length-replicate}
use Rattle.wf_classes.specs.Above.{Has}
use Rattle.wf_classes.proofs.Sweep.{empty_has_none}
use Rattle.wf_resolve.specs.Reaching.{IsSought, IsReaching}
use Rattle.wf_resolve.proofs.Climbing.{height_within}
use Rattle.wf_resolve.proofs.FieldSearch.{IsReachedTo, reached_none, reached_more, all_reached, direct_marked, next_up}
use Rattle.wf_resolve.proofs.fields.reaching.Goals as goal

pub overflow_add-h-end : goal.overflow_add-h-end
overflow_add-h-end c =
    let w = height_within c.args.classes.now c.args.ranks.order.now c.args.ranks.heights.now c.args.c.0 c.requires.ranked c.requires.inside in
    omega (arith, w, c.requires.few)

pub loop-h-init : goal.loop-h-init
loop-h-init c = reached_none c.args.classes.now c.args.ranks.heights.now (IsSought c.args.classes.now c.args.sought.now) c.args.c.0 (replicate 1024 0) (length-replicate {A = ℕ} 1024 0) (λ h. empty_has_none 1024 h)

pub bounds-ranks-h : goal.bounds-ranks-h
bounds-ranks-h c =
    let w = height_within c.args.classes.now c.args.ranks.order.now c.args.ranks.heights.now c.args.c.0 c.requires.ranked c.requires.inside in
    omega (arith, w, c.requires.ranked.count, c.loop-h-test.true)

pub is_reaching-is_added-requires-clause-d_in : goal.is_reaching-is_added-requires-clause-d_in
is_reaching-is_added-requires-clause-d_in c = (next_up c.args.classes.now c.args.ranks.order.now c.args.ranks.heights.now c.args.c.0 c.loop-h.h c.requires.ranked c.requires.inside c.loop-h-test.true).in_there

pub is_reaching-is_added-requires-clause-room : goal.is_reaching-is_added-requires-clause-room
is_reaching-is_added-requires-clause-room c = λ s l.
    (let w = height_within c.args.classes.now c.args.ranks.order.now c.args.ranks.heights.now s c.requires.ranked (omega (arith, l, c.requires.ranked.counted)) in
    omega (arith, w, c.requires.few, c.loop-h.invariant.size))

pub is_reaching-is_added-requires-clause-marked : goal.is_reaching-is_added-requires-clause-marked
is_reaching-is_added-requires-clause-marked c = λ s direct.
    (let classes = c.args.classes.now in
    let P = IsSought classes c.args.sought.now in
    let hs = c.args.ranks.heights.now in
    let next = next_up classes c.args.ranks.order.now hs c.args.c.0 c.loop-h.h c.requires.ranked c.requires.inside c.loop-h-test.true in
    subst (λ n. Has c.loop-h.bits (get_or hs s 0) ↔ IsReaching classes P n s) (sym c.above-above.ensures.class)
    (direct_marked classes c.args.ranks.order.now hs P c.args.c.0 c.loop-h.h (get_or c.args.ranks.order.now c.loop-h.h 0) c.loop-h.bits c.requires.ranked next.in_there next.height c.loop-h.invariant s direct))

pub add_if-requires : goal.add_if-requires
add_if-requires c =
    let w = height_within c.args.classes.now c.args.ranks.order.now c.args.ranks.heights.now c.args.c.0 c.requires.ranked c.requires.inside in
    omega (arith, w, c.requires.few, c.loop-h.invariant.size, c.loop-h-test.true)

pub loop-h-preserved : goal.loop-h-preserved
loop-h-preserved c =
    let classes = c.args.classes.now in
    let P = IsSought classes c.args.sought.now in
    let hs = c.args.ranks.heights.now in
    let d = get_or c.args.ranks.order.now c.loop-h.h 0 in
    let next = next_up classes c.args.ranks.order.now hs c.args.c.0 c.loop-h.h c.requires.ranked c.requires.inside c.loop-h-test.true in
    reached_more classes c.args.ranks.order.now hs P c.args.c.0 c.loop-h.h d c.loop-h.bits c.add_if.new.bits c.is_reaching-is_added.result c.requires.ranked next.in_there next.height c.loop-h.invariant
    (subst (λ n. IsTrue c.is_reaching-is_added.result ↔ IsReaching classes P n d) c.above-above.ensures.class c.is_reaching-is_added.ensures) c.add_if.ensures.added c.add_if.ensures.same

pub returns : goal.returns
returns c =
    let P = IsSought c.args.classes.now c.args.sought.now in
    let hs = c.args.ranks.heights.now in
    let same : c.loop-h.h ≡ get_or hs c.args.c.0 0 + 1 = omega (arith, c.loop-h-test.false, c.loop-h.auto.h-end) in
    all_reached c.args.classes.now c.args.ranks.order.now hs P c.args.c.0 c.loop-h.bits c.requires.ranked c.requires.inside (subst (λ n. IsReachedTo c.args.classes.now hs P c.args.c.0 n c.loop-h.bits) same c.loop-h.invariant)
