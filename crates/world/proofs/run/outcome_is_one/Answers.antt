use Rattle.world.proofs.OutcomeLaws.{outcome_is_one}
use Rattle.world.proofs.run.outcome_is_one.Goals as goal

pub returns : goal.returns
returns c = outcome_is_one
