use Rattle.wf_system.proofs.KeptLaws.{type_put}
use Rattle.wf_system.proofs.kept.put_type.Goals as goal

pub returns-in_default : goal.returns-in_default
returns-in_default c = type_put c.put.result c.args.q c.args.lists.now c.put.new.lists c.args.to c.args.inst c.in_default.not-Inst c.put.ensures
