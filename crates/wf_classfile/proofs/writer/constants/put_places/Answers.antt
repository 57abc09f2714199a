use Rattle.wf_classfile.proofs.WriteLoops.{places_go_on, places_end_early, places_are_done}
use Rattle.wf_classfile.proofs.writer.constants.put_places.Goals as goal

pub loop-entry-preserved : goal.loop-entry-preserved
loop-entry-preserved c = places_go_on c.args.entries.now c.loop-entry.entry-index c.entry-item.result c.entry-item.result c.loop-entry.is_second c.takes_next-is_second.result _ _ _ c.loop-entry-test.true c.entry-item.is c.in_ok-put_pool_place.ensures c.takes_next-is_second.ensures c.loop-entry.invariant

pub returns-then-is_second : goal.returns-then-is_second
returns-then-is_second c = places_end_early c.args.entries.now c.loop-entry.entry-index _ _ _ c.loop-entry-test.false c.if-is_second.true c.loop-entry.invariant

pub returns : goal.returns
returns c = places_are_done c.args.entries.now c.loop-entry.entry-index _ _ _ c.loop-entry-test.false c.if-is_second.false c.loop-entry.invariant
