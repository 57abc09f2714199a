use Rattle.wf_machine.proofs.WorkingRun.{works_out_runs, compares_runs, uses_static_runs, measures_runs, measures_object_runs, gets_elsewhere_runs, locks_runs, tests_object_runs, throws_object_runs, writes_argument_runs}
use Rattle.wf_machine.proofs.laws.families_are_worked_out.Goals as goal

pub returns : goal.returns
returns c = record { works_out = works_out_runs; compares = compares_runs; uses_static = uses_static_runs; measures = measures_runs; measures_object = measures_object_runs; gets_elsewhere = gets_elsewhere_runs; locks = locks_runs; tests_object = tests_object_runs; throws_object = throws_object_runs; writes_argument = writes_argument_runs }
