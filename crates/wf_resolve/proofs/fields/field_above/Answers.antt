use Rattle.std.proofs.Common.{refl, sym, arith, inl}
use Rattle.wf_classes.specs.Above.{itself}
use Rattle.wf_resolve.specs.Fields.{own}
use Rattle.wf_resolve.proofs.Climbing.{height_within}
use Rattle.wf_resolve.proofs.Ranks.{is_lower}
use Rattle.wf_resolve.proofs.FieldSearch.{way_on, way_ends, direct_of_place}
use Rattle.wf_resolve.proofs.fields.field_above.Goals as goal

pub upward-init : goal.upward-init
upward-init c = record { in_there = c.requires; above = itself c.args.c.0; some = λ x h. h; reached = inl refl }

pub returns-in-Some-clause-class : goal.returns-in-Some-clause-class
returns-in-Some-clause-class c = c.upward.invariant.some c.upward.d.0 (own c.upward.d.0 c.in-Some.id.0 (sym c.in-Some.ensures.number))

pub first_behind-requires-clause-room : goal.first_behind-requires-clause-room
first_behind-requires-clause-room c = λ d l.
    (let r = c.heights-ranks.ensures in
    let w = height_within c.args.classes.now c.heights-ranks.result.order.now c.heights-ranks.result.heights.now d r (omega (arith, l, r.counted)) in
    omega (arith, w, c.list.ensures.world.limits.count, c.reaching-bits.ensures.size))

pub upward-smaller : goal.upward-smaller
upward-smaller c =
    let r = c.heights-ranks.ensures in
    let f = c.in-Some-first_behind.ensures in
    (is_lower c.args.classes.now c.heights-ranks.result.order.now c.heights-ranks.result.heights.now c.upward.d.0 c.in-Some-first_behind.s.0 r c.upward.invariant.in_there
    (direct_of_place c.args.classes.now c.upward.d.0 f.place c.in-Some-first_behind.s.0 f.there)).lower

pub upward-preserved : goal.upward-preserved
upward-preserved c =
    way_on c.args.classes.now c.heights-ranks.result.order.now c.heights-ranks.result.heights.now c.args.name.now c.args.desc.now c.args.c.0 c.upward.d.0 c.reaching-bits.result c.in-Some-first_behind.s.0
    c.heights-ranks.ensures c.reaching-bits.ensures c.upward.invariant (sym c.in-None.ensures.number) c.in-Some-first_behind.ensures

pub returns-in-None-first_behind-clause-class : goal.returns-in-None-first_behind-clause-class
returns-in-None-first_behind-clause-class c =
    way_ends c.args.classes.now c.heights-ranks.result.order.now c.heights-ranks.result.heights.now c.args.name.now c.args.desc.now c.args.c.0 c.upward.d.0 c.reaching-bits.result
    c.heights-ranks.ensures c.reaching-bits.ensures c.upward.invariant (sym c.in-None.ensures.number) c.in-None-first_behind.ensures
