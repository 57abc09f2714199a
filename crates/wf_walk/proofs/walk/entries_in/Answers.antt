use Rattle.std.proofs.Common.{ap}
use Rattle.wf_io.specs.declared.tree.Entry.{Entry}
use Rattle.std.proofs.Common.{List}
use Rattle.wf_walk.specs.declared.walk.Listing.{Listing}
use Rattle.wf_runs.proofs.RunLaws.{ended, lists, list_fails, no_memory}
use Rattle.wf_walk.proofs.walk.entries_in.Goals as goal

pub returns-in_err-entries-in-Ok-clause-listed : goal.returns-in_err-entries-in-Ok-clause-listed
returns-in_err-entries-in-Ok-clause-listed g c = no_memory _ c.from_residual.ensures.1 (lists _ _ _ _ _ _ _ c.in-Ok.ensures.logged)

pub returns-in_ok-entries-in-Ok-clause-listed : goal.returns-in_ok-entries-in-Ok-clause-listed
returns-in_ok-entries-in-Ok-clause-listed g c =
    let listing : List Entry → Listing = λ es. record { dir = c.args.dir; entries = es } in
    ended (lists _ _ _ _ _ _ _ c.in-Ok.ensures.logged) (ap listing c.in_ok-entries-in-Ok.ensures.order)

pub returns-in-Err-clause-listed : goal.returns-in-Err-clause-listed
returns-in-Err-clause-listed g c = rw c.fault_at.ensures (list_fails _ _ _ _ _ _ _ c.in-Err.ensures.logged)
