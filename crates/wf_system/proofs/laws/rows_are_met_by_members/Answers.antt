use Rattle.wf_system.proofs.MemberLaws.{met_by_members}
use Rattle.wf_system.proofs.laws.rows_are_met_by_members.Goals as goal

pub returns : goal.returns
returns g c = λ t q x shaped fits. met_by_members t shaped x q fits
