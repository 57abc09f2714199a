use Rattle.std.proofs.Common.{refl}
use Rattle.wf_runs.proofs.RunLaws.{ended, reads, read_fails}
use Rattle.wf_walk.proofs.file.read_file.Goals as goal

pub returns-in-Ok-clause-read : goal.returns-in-Ok-clause-read
returns-in-Ok-clause-read g c = ended (reads _ _ _ _ _ _ _ c.in-Ok.ensures.logged) refl

pub returns-in-Err-clause-read : goal.returns-in-Err-clause-read
returns-in-Err-clause-read g c = rw c.fault_at.ensures (read_fails _ _ _ _ _ _ _ c.in-Err.ensures.logged)
