use Rattle.std.proofs.Common.{[], ◌∷◌, Some, refl}
use Rattle.wf_machine.specs.Executions as execution
use Rattle.wf_machine.specs.Executions.{Exec}
use Rattle.wf_machine.specs.Steps as step
use Rattle.wf_rows.specs.declared.roots.RootUse.TheVariants.{Has}
use Rattle.wf_runtime.specs.Roots as root
use Rattle.wf_runtime.specs.Smallest.{world, states}
use Rattle.wf_runtime.proofs.SmallestWorld.{smallest_is}
use Rattle.wf_runtime.proofs.laws.an_execution_stands.Goals as goal

runs : Exec world (Has (record { 0 = 1 }) (Some (record { 0 = 0 })) ∷ []) states
runs =
    execution.Exec.goes_on _ _ _ (execution.Exec.goes_on _ _ _ (execution.Exec.goes_on _ _ _ (execution.Exec.goes_on _ _ _ execution.Exec.begins
    (execution.Follows.starts (Has (record { 0 = 1 }) (Some (record { 0 = 0 }))) _ _ (record { place = 0; there = refl }) (execution.Starts.has _ _)))
    (execution.Follows.steps _ _ (step.Step.root_requests _ _ _ _ refl (step.Progresses.progresses (step.Assigns.none _)))))
    (execution.Follows.steps _ _ (step.Step.complete _ _ _ refl)))
    (execution.Follows.steps _ _ (step.Step.root_done _ _ _ refl))

pub returns : goal.returns
returns c = record {
  world = world;
  is_world = smallest_is;
  uses = Has (record { 0 = 1 }) (Some (record { 0 = 0 })) ∷ [];
  are_uses = (root.IsUse.has _ _ (root.IsClassOf.class _ _ refl refl refl), tt);
  exec = runs;
}
