use Rattle.wf_classes.proofs.HeightSets.{adds_one}
use Rattle.wf_classes.proofs.heights.add.Goals as goal

pub returns : goal.returns
returns c = adds_one c.args.bits.now c.args.h c.requires
