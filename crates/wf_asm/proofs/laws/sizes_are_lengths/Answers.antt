use Rattle.wf_asm.proofs.SizeLaws.{step_many}
use Rattle.wf_asm.proofs.laws.sizes_are_lengths.Goals as goal

pub returns : goal.returns
returns c = λ cs labels at s bytes h. (step_many cs labels at s).is bytes h
