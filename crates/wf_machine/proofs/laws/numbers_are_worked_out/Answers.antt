use Rattle.wf_machine.proofs.NumbersRun.{adds_runs, adds_longs_runs, moves_runs, branches_runs, switches_runs}
use Rattle.wf_machine.proofs.laws.numbers_are_worked_out.Goals as goal

pub returns : goal.returns
returns c = record { adds = adds_runs; adds_longs = adds_longs_runs; moves = moves_runs; branches = branches_runs; switches = switches_runs }
