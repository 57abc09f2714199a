use Rattle.wf_machine.proofs.StartingRun.{fails_below_runs, passes_runs, fails_as_error_runs, fails_ended_runs, initializes_nothing_runs, starts_nothing_runs}
use Rattle.wf_machine.proofs.laws.classes_fail.Goals as goal

pub returns : goal.returns
returns c = record { fails_below = fails_below_runs; passes = passes_runs; fails_as_error = fails_as_error_runs; fails_ended = fails_ended_runs; initializes_nothing = initializes_nothing_runs; starts_nothing = starts_nothing_runs }
