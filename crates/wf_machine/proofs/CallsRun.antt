-- Small programs run as they should: their states follow one another.
use Rattle.std.proofs.Common.{[], ◌∷◌, refl}
use Rattle.std.specs.Int.{int_wrap}
use Rattle.wf_machine.specs.Steps as step
use Rattle.wf_machine.specs.Computing as computing
use Rattle.wf_machine.specs.Does as does
use Rattle.wf_machine.specs.Objects as objects
use Rattle.wf_machine.specs.Unwinding as unwinding
use Rattle.wf_machine.specs.Executions as execution
use Rattle.wf_machine.specs.Executions.{Exec}
use Rattle.wf_machine.proofs.Running.{then}
use Rattle.wf_machine.specs.Programs.{calls_virtual, calls_virtual_states, calls_abstract, calls_abstract_states, throws_through_two, throws_through_two_states, calls_0}

pub calls_virtual_runs : Exec calls_virtual (calls_0 ∷ []) calls_virtual_states
unfolding int_wrap
calls_virtual_runs =
    (then (then (then (then (then (then (then (then (execution.Exec.goes_on _ _ _ execution.Exec.begins (execution.Follows.starts calls_0 _ _ (record { place = 0; there = refl }) (execution.Starts.calls _ _ _ _ _ (execution.AreArguments.none _))))
    (step.Step.root_requests _ _ _ _ refl (step.Progresses.progresses (step.Assigns.none _))))
    (step.Step.complete _ _ _ refl))
    (step.Step.root_calls _ _ _ _ _ _ refl refl))
    (step.Step.goes _ _ _ _ _ _ _ _ _ (record { there = refl; does = does.Does.makes _ _ (objects.MakesObject.object _ refl) })))
    (step.Step.enters _ _ _ _ _ _ _ _ _ (record { there = refl; does = does.Does.calls _ _ (does.Calls.calls _ _ _ refl refl) }) refl))
    (step.Step.goes _ _ _ _ _ _ _ _ _ (record { there = refl; does = does.Does.computes _ _ (computing.Computes.int) })))
    (step.Step.returns _ _ _ _ _ _ _ _ _ (record { there = refl; does = does.Does.returns_value _ }) (unwinding.Resumes.caller _ _ _ _ _ _ refl refl)))
    (step.Step.returns _ _ _ _ _ _ _ _ _ (record { there = refl; does = does.Does.returns_value _ }) (unwinding.Resumes.root _)))

pub calls_abstract_runs : Exec calls_abstract (calls_0 ∷ []) calls_abstract_states
unfolding int_wrap
calls_abstract_runs =
    (then (then (then (then (execution.Exec.goes_on _ _ _ execution.Exec.begins (execution.Follows.starts calls_0 _ _ (record { place = 0; there = refl }) (execution.Starts.calls _ _ _ _ _ (execution.AreArguments.none _))))
    (step.Step.root_requests _ _ _ _ refl (step.Progresses.progresses (step.Assigns.none _))))
    (step.Step.complete _ _ _ refl))
    (step.Step.root_calls _ _ _ _ _ _ refl refl))
    (step.Step.enters_nothing _ _ _ _ _ _ _ _ (record { there = refl; does = does.Does.calls_static _ _ (does.CallsStatic.calls _ refl) }) refl))

pub throws_through_two_runs : Exec throws_through_two (calls_0 ∷ []) throws_through_two_states
unfolding int_wrap
throws_through_two_runs =
    (then (then (then (then (then (then (then (then (then (execution.Exec.goes_on _ _ _ execution.Exec.begins (execution.Follows.starts calls_0 _ _ (record { place = 0; there = refl }) (execution.Starts.calls _ _ _ _ _ (execution.AreArguments.none _))))
    (step.Step.root_requests _ _ _ _ refl (step.Progresses.progresses (step.Assigns.none _))))
    (step.Step.complete _ _ _ refl))
    (step.Step.root_calls _ _ _ _ _ _ refl refl))
    (step.Step.enters _ _ _ _ _ _ _ _ _ (record { there = refl; does = does.Does.calls_static _ _ (does.CallsStatic.calls _ refl) }) refl))
    (step.Step.goes _ _ _ _ _ _ _ _ _ (record { there = refl; does = does.Does.computes _ _ (computing.Computes.int) })))
    (step.Step.goes _ _ _ _ _ _ _ _ _ (record { there = refl; does = does.Does.computes _ _ (computing.Computes.int) })))
    (step.Step.throws _ _ _ _ _ _ _ _ (record { there = refl; does = does.Does.computes _ _ (computing.Computes.ints_by_zero _ _ _ refl refl refl) }) (unwinding.ThrowsError.throws _ _ refl (unwinding.Unwinds.leaves _ _ _ _ _ _ _ refl (unwinding.Unwinds.caught _ _ _ _ _ _ _ refl)))))
    (step.Step.goes _ _ _ _ _ _ _ _ _ (record { there = refl; does = does.Does.moves _ (computing.Moves.falls) })))
    (step.Step.returns _ _ _ _ _ _ _ _ _ (record { there = refl; does = does.Does.returns }) (unwinding.Resumes.root _)))
