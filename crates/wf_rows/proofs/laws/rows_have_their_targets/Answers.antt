use Rattle.wf_rows.proofs.Targets.{place-there}
use Rattle.wf_rows.proofs.laws.rows_have_their_targets.Goals as goal

pub returns : goal.returns
returns c = place-there
