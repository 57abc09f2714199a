use Rattle.wf_asm.specs.Building.{step_bytes}
use Rattle.std.proofs.Common.{length}
use Rattle.wf_asm.proofs.PuttingLaws.{code_put}
use Rattle.wf_asm.proofs.build.put_code.Goals as goal

pub returns : goal.returns
returns c = code_put c.put_step.result c.args.so_far.now c.put_step.new.out (step_bytes c.args.pool.now c.args.labels.now (length c.args.so_far.now.code) c.args.step.now) (rw c.as_slice-at.ensures at c.put_step.ensures)
