use Rattle.wf_sys.proofs.SystemLaws.{guard_rises, value_rises}
use Rattle.wf_sys.proofs.laws.systems_are_monotone.Goals as goal

pub returns : goal.returns
returns c = record { guards = guard_rises; values = value_rises; named_guards = guard_rises; named_values = value_rises }
