use Rattle.wf_sys.proofs.ValueLaws.{join_left, join_right, join_least}
use Rattle.wf_sys.proofs.laws.join_is_least.Goals as goal

pub returns : goal.returns
returns c = record { left = join_left; right = join_right; least = join_least }
