use Rattle.wf_classes.proofs.HeightSets.{cut_is}
use Rattle.wf_classes.proofs.heights.cut_below.Goals as goal

pub returns : goal.returns
returns c = cut_is c.args.word c.args.bound c.requires
