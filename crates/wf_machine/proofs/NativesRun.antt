-- Small programs run as they should: their states follow one another.
use Rattle.std.proofs.Common.{[], ◌∷◌, refl}
use Rattle.std.specs.Int.{int_wrap}
use Rattle.wf_machine.specs.Steps as step
use Rattle.wf_machine.specs.Computing as computing
use Rattle.wf_machine.specs.Does as does
use Rattle.wf_machine.specs.Objects as objects
use Rattle.wf_machine.specs.Outside as outside
use Rattle.wf_machine.specs.Stated as stated
use Rattle.wf_machine.specs.Unwinding as unwinding
use Rattle.wf_machine.specs.Executions as execution
use Rattle.wf_machine.specs.Executions.{Exec}
use Rattle.wf_machine.proofs.Running.{then}
use Rattle.wf_machine.specs.Programs.{calls_native, calls_native_states, native_throws, native_throws_states, calls_0}

pub calls_native_runs : Exec calls_native (calls_0 ∷ []) calls_native_states
unfolding int_wrap
calls_native_runs =
    (then (then (then (then (then (then (then (then (then (then (then (execution.Exec.goes_on _ _ _ execution.Exec.begins (execution.Follows.starts calls_0 _ _ (record { place = 0; there = refl }) (execution.Starts.calls _ _ _ _ _ (execution.AreArguments.none _))))
    (step.Step.root_requests _ _ _ _ refl (step.Progresses.progresses (step.Assigns.none _))))
    (step.Step.complete _ _ _ refl))
    (step.Step.root_calls _ _ _ _ _ _ refl refl))
    (step.Step.goes _ _ _ _ _ _ _ _ _ (record { there = refl; does = does.Does.computes _ _ (computing.Computes.int) })))
    (step.Step.goes _ _ _ _ _ _ _ _ _ (record { there = refl; does = does.Does.makes _ _ (objects.MakesObject.array _ _ refl) })))
    (step.Step.enters _ _ _ _ _ _ _ _ _ (record { there = refl; does = does.Does.calls_static _ _ (does.CallsStatic.calls _ refl) }) refl))
    (step.Step.acts _ _ _ _ _ _ _ refl (record { place = 2; there = refl }) (outside.Acts.copies _ _ _ 0 0 _ _ _ refl refl refl refl refl refl)))
    (step.Step.acts _ _ _ _ _ _ _ refl (record { place = 0; there = refl }) (outside.Acts.makes _ _ _ (stated.Makes.makes 0 (λ _. refl)))))
    (step.Step.acts _ _ _ _ _ _ _ refl (record { place = 1; there = refl }) (outside.Acts.writes _ _ _ _ _ (outside.IsGiven.stated _ _ _ (stated.IsStated.int _)) (outside.Writes.static refl))))
    (step.Step.answers _ _ _ _ _ _ _ _ _ _ refl (record { place = 3; there = refl }) (outside.Answers.value _ _ _ (outside.IsGiven.stated _ _ _ (stated.IsStated.int _))) (unwinding.Resumes.caller _ _ _ _ _ _ refl refl)))
    (step.Step.returns _ _ _ _ _ _ _ _ _ (record { there = refl; does = does.Does.returns_value _ }) (unwinding.Resumes.root _)))

pub native_throws_runs : Exec native_throws (calls_0 ∷ []) native_throws_states
unfolding int_wrap
native_throws_runs =
    (then (then (then (then (then (then (then (execution.Exec.goes_on _ _ _ execution.Exec.begins (execution.Follows.starts calls_0 _ _ (record { place = 0; there = refl }) (execution.Starts.calls _ _ _ _ _ (execution.AreArguments.none _))))
    (step.Step.root_requests _ _ _ _ refl (step.Progresses.progresses (step.Assigns.none _))))
    (step.Step.complete _ _ _ refl))
    (step.Step.root_calls _ _ _ _ _ _ refl refl))
    (step.Step.goes _ _ _ _ _ _ _ _ _ (record { there = refl; does = does.Does.computes _ _ (computing.Computes.int) })))
    (step.Step.goes _ _ _ _ _ _ _ _ _ (record { there = refl; does = does.Does.makes _ _ (objects.MakesObject.array _ _ refl) })))
    (step.Step.enters _ _ _ _ _ _ _ _ _ (record { there = refl; does = does.Does.calls_static _ _ (does.CallsStatic.calls _ refl) }) refl))
    (step.Step.outside_throws _ _ _ _ _ _ _ refl (record { place = 0; there = refl }) (unwinding.Unwinds.leaves_outside _ _ _ _ _ _ (unwinding.Unwinds.leaves _ _ _ _ _ _ _ refl (unwinding.Unwinds.empties _ _)))))
