use Rattle.wf_blocks.proofs.LawLemmas.{came}
use Rattle.wf_blocks.proofs.laws.joined_kinds_came.Goals as goal

pub returns : goal.returns
returns c = λ g place i slots e k p way has. came g place i slots e k p way has
