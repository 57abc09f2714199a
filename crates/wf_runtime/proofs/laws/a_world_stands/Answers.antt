use Rattle.wf_runtime.proofs.SmallestWorld.{smallest_is}
use Rattle.wf_runtime.proofs.laws.a_world_stands.Goals as goal

pub returns : goal.returns
returns c = smallest_is
