-- An execution a step further.
use Rattle.std.proofs.Common.{List, ◌∷◌}
use Rattle.wf_rows.specs.declared.roots.RootUse.{RootUse}
use Rattle.wf_machine.specs.World.{World}
use Rattle.wf_machine.specs.Frames.{State}
use Rattle.wf_machine.specs.Steps.{Step}
use Rattle.wf_machine.specs.Executions as execution
use Rattle.wf_machine.specs.Executions.{Exec}

pub then : {w : World} {roots : List RootUse} {s t : State} {states : List State} → Exec w roots (s ∷ states) → Step w s t → Exec w roots (t ∷ s ∷ states)
then e step = execution.Exec.goes_on _ _ _ e (execution.Follows.steps _ _ step)
