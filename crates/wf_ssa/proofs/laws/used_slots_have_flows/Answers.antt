use Rattle.wf_ssa.proofs.UsedLemmas.{used_flow}
use Rattle.wf_ssa.proofs.laws.used_slots_have_flows.Goals as goal

pub returns : goal.returns
returns c = λ b failing place slot k kind sound known has used e. used_flow b failing known.marks place slot k kind sound known.before used has e
