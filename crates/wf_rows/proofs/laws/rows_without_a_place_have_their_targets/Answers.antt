use Rattle.wf_rows.proofs.Targets.{initialization-there, instances-there, elements-there, effects-there}
use Rattle.wf_rows.proofs.laws.rows_without_a_place_have_their_targets.Goals as goal

pub returns : goal.returns
returns c = record { classes = initialization-there; instances = instances-there; elements = elements-there; effects = effects-there }
