use Rattle.wf_system.proofs.GrowLaws.{guard_grows, value_grows}
use Rattle.wf_system.proofs.laws.guards_and_values_grow.Goals as goal

pub returns : goal.returns
returns g c = record { guards = λ t x y guard shaped below. guard_grows t shaped x y below guard; values = λ t x y value to shaped below. value_grows t shaped x y below value to }
