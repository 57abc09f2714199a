use Rattle.wf_blocks.proofs.LawLemmas.{same_depth}
use Rattle.wf_blocks.proofs.laws.depths_agree.Goals as goal

pub returns : goal.returns
returns c = λ g place one other sound p q. same_depth g place one other sound p q
