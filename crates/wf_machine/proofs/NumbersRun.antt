-- Small programs run as they should: their states follow one another.
use Rattle.std.proofs.Common.{[], ◌∷◌, refl}
use Rattle.std.specs.Int.{int_wrap}
use Rattle.wf_machine.specs.Steps as step
use Rattle.wf_machine.specs.Computing as computing
use Rattle.wf_machine.specs.Does as does
use Rattle.wf_machine.specs.Unwinding as unwinding
use Rattle.wf_machine.specs.Executions as execution
use Rattle.wf_machine.specs.Executions.{Exec}
use Rattle.wf_machine.proofs.Running.{then}
use Rattle.wf_machine.specs.Programs.{adds, adds_states, adds_longs, adds_longs_states, moves, moves_states, branches, branches_states, switches, switches_states, calls_0}

pub adds_runs : Exec adds (calls_0 ∷ []) adds_states
unfolding int_wrap
adds_runs =
    (then (then (then (then (then (then (then (execution.Exec.goes_on _ _ _ execution.Exec.begins (execution.Follows.starts calls_0 _ _ (record { place = 0; there = refl }) (execution.Starts.calls _ _ _ _ _ (execution.AreArguments.none _))))
    (step.Step.root_requests _ _ _ _ refl (step.Progresses.progresses (step.Assigns.none _))))
    (step.Step.complete _ _ _ refl))
    (step.Step.root_calls _ _ _ _ _ _ refl refl))
    (step.Step.goes _ _ _ _ _ _ _ _ _ (record { there = refl; does = does.Does.computes _ _ (computing.Computes.int) })))
    (step.Step.goes _ _ _ _ _ _ _ _ _ (record { there = refl; does = does.Does.computes _ _ (computing.Computes.int) })))
    (step.Step.goes _ _ _ _ _ _ _ _ _ (record { there = refl; does = does.Does.computes _ _ (computing.Computes.ints _ _ _ _ refl refl refl) })))
    (step.Step.returns _ _ _ _ _ _ _ _ _ (record { there = refl; does = does.Does.returns_value _ }) (unwinding.Resumes.root _)))

pub adds_longs_runs : Exec adds_longs (calls_0 ∷ []) adds_longs_states
unfolding int_wrap
adds_longs_runs =
    (then (then (then (then (then (then (then (then (execution.Exec.goes_on _ _ _ execution.Exec.begins (execution.Follows.starts calls_0 _ _ (record { place = 0; there = refl }) (execution.Starts.calls _ _ _ _ _ (execution.AreArguments.none _))))
    (step.Step.root_requests _ _ _ _ refl (step.Progresses.progresses (step.Assigns.none _))))
    (step.Step.complete _ _ _ refl))
    (step.Step.root_calls _ _ _ _ _ _ refl refl))
    (step.Step.goes _ _ _ _ _ _ _ _ _ (record { there = refl; does = does.Does.computes _ _ (computing.Computes.long) })))
    (step.Step.goes _ _ _ _ _ _ _ _ _ (record { there = refl; does = does.Does.computes _ _ (computing.Computes.long) })))
    (step.Step.goes _ _ _ _ _ _ _ _ _ (record { there = refl; does = does.Does.computes _ _ (computing.Computes.longs _ _ _ _ refl refl refl) })))
    (step.Step.goes _ _ _ _ _ _ _ _ _ (record { there = refl; does = does.Does.computes _ _ (computing.Computes.long_to_int _ refl) })))
    (step.Step.returns _ _ _ _ _ _ _ _ _ (record { there = refl; does = does.Does.returns_value _ }) (unwinding.Resumes.root _)))

pub moves_runs : Exec moves (calls_0 ∷ []) moves_states
unfolding int_wrap
moves_runs =
    (then (then (then (then (then (then (then (then (then (execution.Exec.goes_on _ _ _ execution.Exec.begins (execution.Follows.starts calls_0 _ _ (record { place = 0; there = refl }) (execution.Starts.calls _ _ _ _ _ (execution.AreArguments.none _))))
    (step.Step.root_requests _ _ _ _ refl (step.Progresses.progresses (step.Assigns.none _))))
    (step.Step.complete _ _ _ refl))
    (step.Step.root_calls _ _ _ _ _ _ refl refl))
    (step.Step.goes _ _ _ _ _ _ _ _ _ (record { there = refl; does = does.Does.computes _ _ (computing.Computes.int) })))
    (step.Step.goes _ _ _ _ _ _ _ _ _ (record { there = refl; does = does.Does.moves _ (computing.Moves.falls) })))
    (step.Step.goes _ _ _ _ _ _ _ _ _ (record { there = refl; does = does.Does.computes _ _ (computing.Computes.increment 0 _ refl refl) })))
    (step.Step.goes _ _ _ _ _ _ _ _ _ (record { there = refl; does = does.Does.moves _ (computing.Moves.falls) })))
    (step.Step.goes _ _ _ _ _ _ _ _ _ (record { there = refl; does = does.Does.moves _ (computing.Moves.falls) })))
    (step.Step.returns _ _ _ _ _ _ _ _ _ (record { there = refl; does = does.Does.returns_value _ }) (unwinding.Resumes.root _)))

pub branches_runs : Exec branches (calls_0 ∷ []) branches_states
unfolding int_wrap
branches_runs =
    (then (then (then (then (then (then (then (then (execution.Exec.goes_on _ _ _ execution.Exec.begins (execution.Follows.starts calls_0 _ _ (record { place = 0; there = refl }) (execution.Starts.calls _ _ _ _ _ (execution.AreArguments.none _))))
    (step.Step.root_requests _ _ _ _ refl (step.Progresses.progresses (step.Assigns.none _))))
    (step.Step.complete _ _ _ refl))
    (step.Step.root_calls _ _ _ _ _ _ refl refl))
    (step.Step.goes _ _ _ _ _ _ _ _ _ (record { there = refl; does = does.Does.computes _ _ (computing.Computes.int) })))
    (step.Step.goes _ _ _ _ _ _ _ _ _ (record { there = refl; does = does.Does.moves _ (computing.Moves.holds _ _ (computing.Says.to_zero _ _ _ refl refl)) })))
    (step.Step.goes _ _ _ _ _ _ _ _ _ (record { there = refl; does = does.Does.computes _ _ (computing.Computes.int) })))
    (step.Step.goes _ _ _ _ _ _ _ _ _ (record { there = refl; does = does.Does.moves _ (computing.Moves.fails _ _ (computing.Says.to_zero _ _ _ refl refl)) })))
    (step.Step.returns _ _ _ _ _ _ _ _ _ (record { there = refl; does = does.Does.returns }) (unwinding.Resumes.root _)))

pub switches_runs : Exec switches (calls_0 ∷ []) switches_states
unfolding int_wrap
switches_runs =
    (then (then (then (then (then (then (then (then (execution.Exec.goes_on _ _ _ execution.Exec.begins (execution.Follows.starts calls_0 _ _ (record { place = 0; there = refl }) (execution.Starts.calls _ _ _ _ _ (execution.AreArguments.none _))))
    (step.Step.root_requests _ _ _ _ refl (step.Progresses.progresses (step.Assigns.none _))))
    (step.Step.complete _ _ _ refl))
    (step.Step.root_calls _ _ _ _ _ _ refl refl))
    (step.Step.goes _ _ _ _ _ _ _ _ _ (record { there = refl; does = does.Does.computes _ _ (computing.Computes.int) })))
    (step.Step.goes _ _ _ _ _ _ _ _ _ (record { there = refl; does = does.Does.moves _ (computing.Moves.case _ _ _ _ refl refl) })))
    (step.Step.goes _ _ _ _ _ _ _ _ _ (record { there = refl; does = does.Does.computes _ _ (computing.Computes.int) })))
    (step.Step.goes _ _ _ _ _ _ _ _ _ (record { there = refl; does = does.Does.moves _ (computing.Moves.default _ _ _ refl refl) })))
    (step.Step.returns _ _ _ _ _ _ _ _ _ (record { there = refl; does = does.Does.returns }) (unwinding.Resumes.root _)))
