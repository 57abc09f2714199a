use Rattle.std.proofs.Common.{get_or, refl, arith}
use Rattle.wf_classes.proofs.Sweep.{height_there, sweep_starts, sweep_goes_on, sweep_ends, highest_of_swept, empty_has_none}
use Rattle.wf_classes.proofs.above.heights_above.Goals as goal

pub add-requires : goal.add-requires
add-requires c =
    let there = height_there c.args.classes.now c.args.ranks.order.now c.args.ranks.heights.now c.args.c.0 c.requires.ranked c.requires.inside in
    omega (arith, there.2, c.requires.few)

pub overflow_add-bound : goal.overflow_add-bound
overflow_add-bound c =
    let there = height_there c.args.classes.now c.args.ranks.order.now c.args.ranks.heights.now c.args.c.0 c.requires.ranked c.requires.inside in
    omega (arith, there.2, c.requires.few)

pub loop-h-init : goal.loop-h-init
loop-h-init c =
    let there = height_there c.args.classes.now c.args.ranks.order.now c.args.ranks.heights.now c.args.c.0 c.requires.ranked c.requires.inside in
    record {
      swept = sweep_starts c.args.classes.now c.args.ranks.order.now c.args.ranks.heights.now c.args.c.0 _ c.add.new.bits c.requires.ranked c.requires.inside (empty_has_none 1024) c.add.ensures;
      within = omega (arith, there.2);
    }

pub add_direct-requires-clause-inside : goal.add_direct-requires-clause-inside
add_direct-requires-clause-inside c =
    (highest_of_swept c.args.classes.now c.args.ranks.order.now c.args.ranks.heights.now c.args.c.0 c.loop-h.bound c.in-Some.h c.loop-h.bits c.requires.ranked c.loop-h.invariant.swept c.in-Some.ensures).1

pub add_direct-requires-clause-room : goal.add_direct-requires-clause-room
add_direct-requires-clause-room c d l =
    let there = height_there c.args.classes.now c.args.ranks.order.now c.args.ranks.heights.now d c.requires.ranked (omega (arith, l, c.requires.ranked.counted)) in
    omega (arith, there.2, c.requires.few, c.loop-h.array_long)

pub loop-h-preserved : goal.loop-h-preserved
loop-h-preserved c = record {
  swept = sweep_goes_on c.args.classes.now c.args.ranks.order.now c.args.ranks.heights.now c.args.c.0 c.loop-h.bound c.in-Some.h (get_or c.args.ranks.order.now c.in-Some.h 0) c.loop-h.bits c.add_direct.new.bits c.requires.ranked c.loop-h.invariant.swept c.in-Some.ensures refl c.add_direct.ensures;
  within = omega (arith, c.in-Some.ensures.below, c.loop-h.invariant.within);
}

pub returns : goal.returns
returns c = sweep_ends c.args.classes.now c.args.ranks.order.now c.args.ranks.heights.now c.args.c.0 c.loop-h.bound c.loop-h.bits c.requires.ranked c.requires.inside c.loop-h.invariant.swept c.in_default.ensures
