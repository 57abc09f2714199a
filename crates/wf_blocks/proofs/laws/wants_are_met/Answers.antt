use Rattle.wf_blocks.proofs.LawLemmas.{met, read}
use Rattle.wf_blocks.proofs.laws.wants_are_met.Goals as goal

pub returns-clause-met : goal.returns-clause-met
returns-clause-met c = λ g place i slots sound p lt. met g place i slots sound p lt

pub returns-clause-only : goal.returns-clause-only
returns-clause-only c = λ g place i slots k sound p lt is. read g place i slots k sound p lt is
