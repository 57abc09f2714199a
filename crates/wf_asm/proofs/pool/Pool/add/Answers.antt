use Rattle.wf_asm.proofs.ConstantLaws.{is_added}
use Rattle.wf_asm.proofs.pool.Pool.add.Goals as goal

pub returns : goal.returns
returns c = is_added c.args.constant c.self.inside.constants.keys c.args.self.now c.insert.new.self.keys c.self.view_is c.in_ok-insert.ensures.keys
