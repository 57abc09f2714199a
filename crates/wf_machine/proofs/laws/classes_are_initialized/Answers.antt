use Rattle.wf_machine.proofs.ClassesRun.{ring_runs, fails_runs, makes_root_runs}
use Rattle.wf_machine.proofs.laws.classes_are_initialized.Goals as goal

pub returns : goal.returns
returns c = record { ring = ring_runs; fails = fails_runs; makes_root = makes_root_runs }
