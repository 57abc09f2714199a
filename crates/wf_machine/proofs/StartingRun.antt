-- Small programs whose classes fail, or whose methods have no body, run as they should: their states follow one another.
use Rattle.std.proofs.Common.{[], ◌∷◌, refl}
use Rattle.std.specs.Int.{int_wrap}
use Rattle.wf_machine.specs.Steps as step
use Rattle.wf_machine.specs.Computing as computing
use Rattle.wf_machine.specs.Does as does
use Rattle.wf_machine.specs.Objects as objects
use Rattle.wf_machine.specs.Unwinding as unwinding
use Rattle.wf_machine.specs.Executions as execution
use Rattle.wf_machine.specs.Executions.{Exec}
use Rattle.wf_machine.proofs.Running.{then}
use Rattle.wf_machine.specs.Programs.{calls_0}
use Rattle.wf_machine.specs.Rooting.{returns}
use Rattle.wf_machine.specs.Starting.{has_1, calls_5, fails_below, fails_below_states, passes, passes_states, fails_as_error, fails_as_error_states, fails_ended, fails_ended_states, initializes_nothing, initializes_nothing_states, starts_nothing_states}

pub fails_below_runs : Exec fails_below (has_1 ∷ calls_0 ∷ []) fails_below_states
unfolding int_wrap
fails_below_runs =
    then (then (execution.Exec.goes_on _ _ _ (then (then (then (then (execution.Exec.goes_on _ _ _ execution.Exec.begins (execution.Follows.starts has_1 _ _ (record { place = 0; there = refl }) (execution.Starts.has _ _)))
    (step.Step.root_requests _ _ _ _ refl (step.Progresses.progresses (step.Assigns.none _))))
    (step.Step.initializer _ _ _ _ _ refl refl))
    (step.Step.goes _ _ _ _ _ _ _ _ _ (record { there = refl; does = does.Does.computes _ _ (computing.Computes.null) })))
    (step.Step.throws _ _ _ _ _ _ _ _ (record { there = refl; does = does.Does.throws_null refl }) (unwinding.ThrowsError.throws _ _ refl (unwinding.Unwinds.leaves _ _ _ _ _ _ _ refl (unwinding.Unwinds.fails_replaced _ _ _ _ _ _ refl refl (unwinding.Unwinds.drops _ _ _ _ _ (unwinding.Unwinds.empties _ _)))))))
    (execution.Follows.starts calls_0 _ _ (record { place = 1; there = refl }) (execution.Starts.calls _ _ _ _ _ (execution.AreArguments.none _))))
    (step.Step.root_requests _ _ _ _ refl (step.Progresses.progresses (step.Assigns.none _))))
    (step.Step.request_fails _ _ _ _ _ _ refl (unwinding.ThrowsError.throws _ _ refl (unwinding.Unwinds.fails_before _ _ _ _ _ _ (unwinding.Unwinds.drops _ _ _ _ _ (unwinding.Unwinds.empties _ _)))))

pub passes_runs : Exec passes (calls_0 ∷ []) passes_states
unfolding int_wrap
passes_runs =
    then (then (then (then (then (execution.Exec.goes_on _ _ _ execution.Exec.begins (execution.Follows.starts calls_0 _ _ (record { place = 0; there = refl }) (execution.Starts.calls _ _ _ _ _ (execution.AreArguments.none _))))
    (step.Step.root_requests _ _ _ _ refl (step.Progresses.progresses (step.Assigns.none _))))
    (step.Step.request_begins _ _ _ _ _ _ refl (step.Progresses.progresses (step.Assigns.none _))))
    (step.Step.complete _ _ _ refl))
    (step.Step.request_passes _ _ _ _ _ refl))
    (step.Step.complete _ _ _ refl)

pub fails_as_error_runs : Exec fails_as_error (calls_0 ∷ []) fails_as_error_states
unfolding int_wrap
fails_as_error_runs =
    then (then (then (then (execution.Exec.goes_on _ _ _ execution.Exec.begins (execution.Follows.starts calls_0 _ _ (record { place = 0; there = refl }) (execution.Starts.calls _ _ _ _ _ (execution.AreArguments.none _))))
    (step.Step.root_requests _ _ _ _ refl (step.Progresses.progresses (step.Assigns.none _))))
    (step.Step.initializer _ _ _ _ _ refl refl))
    (step.Step.goes _ _ _ _ _ _ _ _ _ (record { there = refl; does = does.Does.makes _ _ (objects.MakesObject.object _ refl) })))
    (step.Step.throws_object _ _ _ _ _ _ _ _ (record { there = refl; does = does.Does.throws _ refl }) (unwinding.Unwinds.leaves _ _ _ _ _ _ _ refl (unwinding.Unwinds.fails _ _ _ _ _ refl (unwinding.Unwinds.drops _ _ _ _ _ (unwinding.Unwinds.empties _ _)))))

pub fails_ended_runs : Exec fails_ended (calls_0 ∷ []) fails_ended_states
unfolding int_wrap
fails_ended_runs =
    then (then (then (then (execution.Exec.goes_on _ _ _ execution.Exec.begins (execution.Follows.starts calls_0 _ _ (record { place = 0; there = refl }) (execution.Starts.calls _ _ _ _ _ (execution.AreArguments.none _))))
    (step.Step.root_requests _ _ _ _ refl (step.Progresses.progresses (step.Assigns.none _))))
    (step.Step.initializer _ _ _ _ _ refl refl))
    (step.Step.goes _ _ _ _ _ _ _ _ _ (record { there = refl; does = does.Does.makes _ _ (objects.MakesObject.object _ refl) })))
    (step.Step.throws_object _ _ _ _ _ _ _ _ (record { there = refl; does = does.Does.throws _ refl }) (unwinding.Unwinds.leaves _ _ _ _ _ _ _ refl (unwinding.Unwinds.fails_ended _ _ _ _ refl refl)))

pub initializes_nothing_runs : Exec initializes_nothing (calls_0 ∷ []) initializes_nothing_states
unfolding int_wrap
initializes_nothing_runs =
    then (then (execution.Exec.goes_on _ _ _ execution.Exec.begins (execution.Follows.starts calls_0 _ _ (record { place = 0; there = refl }) (execution.Starts.calls _ _ _ _ _ (execution.AreArguments.none _))))
    (step.Step.root_requests _ _ _ _ refl (step.Progresses.progresses (step.Assigns.none _))))
    (step.Step.initializer_nothing _ _ _ _ refl refl)

pub starts_nothing_runs : Exec returns (calls_5 ∷ []) starts_nothing_states
unfolding int_wrap
starts_nothing_runs =
    then (then (then (execution.Exec.goes_on _ _ _ execution.Exec.begins (execution.Follows.starts calls_5 _ _ (record { place = 0; there = refl }) (execution.Starts.calls _ _ _ _ _ (execution.AreArguments.none _))))
    (step.Step.root_requests _ _ _ _ refl (step.Progresses.progresses (step.Assigns.none _))))
    (step.Step.complete _ _ _ refl))
    (step.Step.root_calls_nothing _ _ _ _ _ refl refl)
