use Rattle.wf_machine.proofs.NativesRun.{calls_native_runs, native_throws_runs}
use Rattle.wf_machine.proofs.laws.natives_do_what_the_summary_says.Goals as goal

pub returns : goal.returns
returns c = record { calls_native = calls_native_runs; native_throws = native_throws_runs }
