use Rattle.std.proofs.Common.{◌≡◌, ◌++◌, drop}
use Rattle.wf_rows.specs.Each.{each_from}
use Rattle.wf_body.specs.Methods.{failing_at}
use Rattle.wf_body.proofs.failing.failing_of.Given as goal

abbrev pub invariant-loop-place : goal.invariant-loop-place
invariant-loop-place l =
    l.failing.items ++ each_from (failing_at l.acts) l.place (drop l.place l.step-items) ≡ each_from (failing_at l.acts) 0 l.step-items
