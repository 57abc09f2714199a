-- Small programs run as they should: their states follow one another.
use Rattle.std.proofs.Common.{[], ◌∷◌, refl}
use Rattle.std.specs.Int.{int_wrap}
use Rattle.wf_machine.specs.Steps as step
use Rattle.wf_machine.specs.Computing as computing
use Rattle.wf_machine.specs.Does as does
use Rattle.wf_machine.specs.Fields as fields
use Rattle.wf_machine.specs.Unwinding as unwinding
use Rattle.wf_machine.specs.Executions as execution
use Rattle.wf_machine.specs.Executions.{Exec}
use Rattle.wf_machine.proofs.Running.{then}
use Rattle.wf_machine.specs.Programs.{ring, ring_states, fails, fails_states, makes_root, makes_root_states, calls_0, makes_0}

pub ring_runs : Exec ring (calls_0 ∷ []) ring_states
unfolding int_wrap
ring_runs =
    (then (then (then (then (then (then (then (then (then (then (then (then (execution.Exec.goes_on _ _ _ execution.Exec.begins (execution.Follows.starts calls_0 _ _ (record { place = 0; there = refl }) (execution.Starts.calls _ _ _ _ _ (execution.AreArguments.none _))))
    (step.Step.root_requests _ _ _ _ refl (step.Progresses.progresses (step.Assigns.value _ _ _ _ _ (step.Assigns.none _)))))
    (step.Step.initializer _ _ _ _ _ refl refl))
    (step.Step.requests _ _ _ _ _ _ _ _ (record { there = refl; does = does.Does.field _ _ (fields.UsesField.get_static_waits _ _ (fields.Waits.requests refl)) }) (step.Progresses.progresses (step.Assigns.value _ _ _ _ _ (step.Assigns.none _)))))
    (step.Step.initializer _ _ _ _ _ refl refl))
    (step.Step.goes _ _ _ _ _ _ _ _ _ (record { there = refl; does = does.Does.field _ _ (fields.UsesField.get_static _ _ refl refl) })))
    (step.Step.goes _ _ _ _ _ _ _ _ _ (record { there = refl; does = does.Does.moves _ (computing.Moves.falls) })))
    (step.Step.returns _ _ _ _ _ _ _ _ _ (record { there = refl; does = does.Does.returns }) (unwinding.Resumes.initialization _ _ _)))
    (step.Step.goes _ _ _ _ _ _ _ _ _ (record { there = refl; does = does.Does.field _ _ (fields.UsesField.get_static _ _ refl refl) })))
    (step.Step.goes _ _ _ _ _ _ _ _ _ (record { there = refl; does = does.Does.moves _ (computing.Moves.falls) })))
    (step.Step.returns _ _ _ _ _ _ _ _ _ (record { there = refl; does = does.Does.returns }) (unwinding.Resumes.initialization _ _ _)))
    (step.Step.root_calls _ _ _ _ _ _ refl refl))
    (step.Step.returns _ _ _ _ _ _ _ _ _ (record { there = refl; does = does.Does.returns }) (unwinding.Resumes.root _)))

pub fails_runs : Exec fails (calls_0 ∷ []) fails_states
unfolding int_wrap
fails_runs =
    (then (then (then (then (execution.Exec.goes_on _ _ _ execution.Exec.begins (execution.Follows.starts calls_0 _ _ (record { place = 0; there = refl }) (execution.Starts.calls _ _ _ _ _ (execution.AreArguments.none _))))
    (step.Step.root_requests _ _ _ _ refl (step.Progresses.progresses (step.Assigns.none _))))
    (step.Step.initializer _ _ _ _ _ refl refl))
    (step.Step.goes _ _ _ _ _ _ _ _ _ (record { there = refl; does = does.Does.computes _ _ (computing.Computes.null) })))
    (step.Step.throws _ _ _ _ _ _ _ _ (record { there = refl; does = does.Does.throws_null refl }) (unwinding.ThrowsError.throws _ _ refl (unwinding.Unwinds.leaves _ _ _ _ _ _ _ refl (unwinding.Unwinds.fails_replaced _ _ _ _ _ _ refl refl (unwinding.Unwinds.drops _ _ _ _ _ (unwinding.Unwinds.empties _ _)))))))

pub makes_root_runs : Exec makes_root (makes_0 ∷ []) makes_root_states
unfolding int_wrap
makes_root_runs =
    (then (then (then (then (then (then (execution.Exec.goes_on _ _ _ execution.Exec.begins (execution.Follows.starts makes_0 _ _ (record { place = 0; there = refl }) (execution.Starts.makes _ _ _)))
    (step.Step.root_requests _ _ _ _ refl (step.Progresses.progresses (step.Assigns.none _))))
    (step.Step.request_begins _ _ _ _ _ _ refl (step.Progresses.progresses (step.Assigns.none _))))
    (step.Step.complete _ _ _ refl))
    (step.Step.complete _ _ _ refl))
    (step.Step.root_makes _ _ _ _ _ _ refl refl))
    (step.Step.returns _ _ _ _ _ _ _ _ _ (record { there = refl; does = does.Does.returns }) (unwinding.Resumes.root _)))
