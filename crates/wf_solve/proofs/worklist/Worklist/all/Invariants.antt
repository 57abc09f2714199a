use Rattle.std.proofs.Common.{◌≡◌, ℕ, ◌<◌, true}
use Rattle.wf_solve.specs.Work.{is_listed}
use Rattle.wf_solve.proofs.worklist.Worklist.all.Given as goal

abbrev pub invariant-loop-n : goal.invariant-loop-n
invariant-loop-n l = record { many : l.work.nodes ≡ l.nodes; each : (m : ℕ) → m < l.n → is_listed l.work m ≡ true }
