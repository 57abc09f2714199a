use Rattle.wf_machine.proofs.CallsRun.{calls_virtual_runs, calls_abstract_runs, throws_through_two_runs}
use Rattle.wf_machine.proofs.laws.calls_return_or_throw.Goals as goal

pub returns : goal.returns
returns c = record { calls_virtual = calls_virtual_runs; calls_abstract = calls_abstract_runs; throws_through_two = throws_through_two_runs }
