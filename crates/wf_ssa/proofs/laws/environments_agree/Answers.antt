use Rattle.wf_ssa.proofs.OnceLemmas.{known_once}
use Rattle.wf_ssa.proofs.laws.environments_agree.Goals as goal

pub returns : goal.returns
returns c = λ b failing place k j one other. known_once b failing place k j one other
