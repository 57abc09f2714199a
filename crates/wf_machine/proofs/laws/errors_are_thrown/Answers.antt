use Rattle.wf_machine.proofs.FailingRun.{loads_outside_runs, stores_below_runs, stores_other_runs, makes_below_runs, casts_other_runs, casts_to_nothing_runs, calls_null_runs, calls_nothing_runs, gets_nothing_runs}
use Rattle.wf_machine.proofs.laws.errors_are_thrown.Goals as goal

pub returns : goal.returns
returns c = record { loads_outside = loads_outside_runs; stores_below = stores_below_runs; stores_other = stores_other_runs; makes_below = makes_below_runs; casts_other = casts_other_runs; casts_to_nothing = casts_to_nothing_runs; calls_null = calls_null_runs; calls_nothing = calls_nothing_runs; gets_nothing = gets_nothing_runs }
