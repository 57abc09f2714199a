use Rattle.wf_subtype.proofs.NameLaws.{one_reference}
use Rattle.wf_subtype.proofs.laws.names_have_one_reference.Goals as goal

pub returns : goal.returns
returns c = one_reference
