use Rattle.wf_machine.proofs.RootsRun.{initializes_runs, starts_twice_runs, fails_again_runs, takes_runs, calls_void_runs}
use Rattle.wf_machine.proofs.laws.roots_are_started.Goals as goal

pub returns : goal.returns
returns c = record { initializes = initializes_runs; starts_twice = starts_twice_runs; fails_again = fails_again_runs; takes = takes_runs; calls_void = calls_void_runs }
