use Rattle.wf_classes.proofs.HeightSets.{adds_more}
use Rattle.wf_classes.proofs.heights.add_all.Goals as goal

pub loop-c-preserved : goal.loop-c-preserved
loop-c-preserved c = adds_more c.args.heights.now c.args.ids.now c.loop-c.c-index c.args.bits.now c.loop-c.bits c.add.new.bits c.loop-c-test.true c.loop-c.invariant c.add.ensures
