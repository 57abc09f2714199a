use Rattle.wf_classes.proofs.HeightSets.{last_bit_is}
use Rattle.wf_classes.proofs.heights.last_bit.Goals as goal

pub returns-else-word-eq0 : goal.returns-else-word-eq0
returns-else-word-eq0 c = last_bit_is c.args.word c.ilog2.result c.ilog2.ensures.bound c.ilog2.ensures.power_le c.ilog2.ensures.next_power_gt
