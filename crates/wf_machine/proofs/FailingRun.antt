-- Small programs in which the machine throws run as they should: their states follow one another.
use Rattle.std.proofs.Common.{[], ◌∷◌, refl}
use Rattle.std.specs.Int.{int_wrap}
use Rattle.wf_machine.specs.Steps as step
use Rattle.wf_machine.specs.Arrays as arrays
use Rattle.wf_machine.specs.Computing as computing
use Rattle.wf_machine.specs.Does as does
use Rattle.wf_machine.specs.Fields as fields
use Rattle.wf_machine.specs.Objects as objects
use Rattle.wf_machine.specs.Unwinding as unwinding
use Rattle.wf_machine.specs.Executions as execution
use Rattle.wf_machine.specs.Executions.{Exec}
use Rattle.wf_machine.proofs.Running.{then}
use Rattle.wf_machine.specs.Programs.{calls_0}
use Rattle.wf_machine.specs.Failing.{loads_outside, loads_outside_states, stores_below, stores_below_states, stores_other, stores_other_states, makes_below, makes_below_states, casts_other, casts_other_states, casts_to_nothing, casts_to_nothing_states, calls_null, calls_null_states, calls_nothing, calls_nothing_states, gets_nothing, gets_nothing_states}

pub loads_outside_runs : Exec loads_outside (calls_0 ∷ []) loads_outside_states
unfolding int_wrap
loads_outside_runs =
    then (then (then (then (then (then (then (execution.Exec.goes_on _ _ _ execution.Exec.begins (execution.Follows.starts calls_0 _ _ (record { place = 0; there = refl }) (execution.Starts.calls _ _ _ _ _ (execution.AreArguments.none _))))
    (step.Step.root_requests _ _ _ _ refl (step.Progresses.progresses (step.Assigns.none _))))
    (step.Step.complete _ _ _ refl))
    (step.Step.root_calls _ _ _ _ _ _ refl refl))
    (step.Step.goes _ _ _ _ _ _ _ _ _ (record { there = refl; does = does.Does.computes _ _ (computing.Computes.int) })))
    (step.Step.goes _ _ _ _ _ _ _ _ _ (record { there = refl; does = does.Does.makes _ _ (objects.MakesObject.array _ _ refl) })))
    (step.Step.goes _ _ _ _ _ _ _ _ _ (record { there = refl; does = does.Does.computes _ _ (computing.Computes.int) })))
    (step.Step.throws _ _ _ _ _ _ _ _ (record { there = refl; does = does.Does.array _ _ (arrays.UsesArray.load_outside _ _ _ refl refl refl refl) }) (unwinding.ThrowsError.throws _ _ refl (unwinding.Unwinds.leaves _ _ _ _ _ _ _ refl (unwinding.Unwinds.empties _ _))))

pub stores_below_runs : Exec stores_below (calls_0 ∷ []) stores_below_states
unfolding int_wrap
stores_below_runs =
    then (then (then (then (then (then (then (then (execution.Exec.goes_on _ _ _ execution.Exec.begins (execution.Follows.starts calls_0 _ _ (record { place = 0; there = refl }) (execution.Starts.calls _ _ _ _ _ (execution.AreArguments.none _))))
    (step.Step.root_requests _ _ _ _ refl (step.Progresses.progresses (step.Assigns.none _))))
    (step.Step.complete _ _ _ refl))
    (step.Step.root_calls _ _ _ _ _ _ refl refl))
    (step.Step.goes _ _ _ _ _ _ _ _ _ (record { there = refl; does = does.Does.computes _ _ (computing.Computes.int) })))
    (step.Step.goes _ _ _ _ _ _ _ _ _ (record { there = refl; does = does.Does.makes _ _ (objects.MakesObject.array _ _ refl) })))
    (step.Step.goes _ _ _ _ _ _ _ _ _ (record { there = refl; does = does.Does.computes _ _ (computing.Computes.int) })))
    (step.Step.goes _ _ _ _ _ _ _ _ _ (record { there = refl; does = does.Does.computes _ _ (computing.Computes.int) })))
    (step.Step.throws _ _ _ _ _ _ _ _ (record { there = refl; does = does.Does.array _ _ (arrays.UsesArray.store_outside _ _ _ refl refl refl refl) }) (unwinding.ThrowsError.throws _ _ refl (unwinding.Unwinds.leaves _ _ _ _ _ _ _ refl (unwinding.Unwinds.empties _ _))))

pub stores_other_runs : Exec stores_other (calls_0 ∷ []) stores_other_states
unfolding int_wrap
stores_other_runs =
    then (then (then (then (then (then (then (then (execution.Exec.goes_on _ _ _ execution.Exec.begins (execution.Follows.starts calls_0 _ _ (record { place = 0; there = refl }) (execution.Starts.calls _ _ _ _ _ (execution.AreArguments.none _))))
    (step.Step.root_requests _ _ _ _ refl (step.Progresses.progresses (step.Assigns.none _))))
    (step.Step.complete _ _ _ refl))
    (step.Step.root_calls _ _ _ _ _ _ refl refl))
    (step.Step.goes _ _ _ _ _ _ _ _ _ (record { there = refl; does = does.Does.computes _ _ (computing.Computes.int) })))
    (step.Step.goes _ _ _ _ _ _ _ _ _ (record { there = refl; does = does.Does.makes _ _ (objects.MakesObject.array _ _ refl) })))
    (step.Step.goes _ _ _ _ _ _ _ _ _ (record { there = refl; does = does.Does.computes _ _ (computing.Computes.int) })))
    (step.Step.goes _ _ _ _ _ _ _ _ _ (record { there = refl; does = does.Does.makes _ _ (objects.MakesObject.object _ refl) })))
    (step.Step.throws _ _ _ _ _ _ _ _ (record { there = refl; does = does.Does.array _ _ (arrays.UsesArray.store_refused _ _ _ _ refl refl refl refl refl) }) (unwinding.ThrowsError.throws _ _ refl (unwinding.Unwinds.leaves _ _ _ _ _ _ _ refl (unwinding.Unwinds.empties _ _))))

pub makes_below_runs : Exec makes_below (calls_0 ∷ []) makes_below_states
unfolding int_wrap
makes_below_runs =
    then (then (then (then (then (execution.Exec.goes_on _ _ _ execution.Exec.begins (execution.Follows.starts calls_0 _ _ (record { place = 0; there = refl }) (execution.Starts.calls _ _ _ _ _ (execution.AreArguments.none _))))
    (step.Step.root_requests _ _ _ _ refl (step.Progresses.progresses (step.Assigns.none _))))
    (step.Step.complete _ _ _ refl))
    (step.Step.root_calls _ _ _ _ _ _ refl refl))
    (step.Step.goes _ _ _ _ _ _ _ _ _ (record { there = refl; does = does.Does.computes _ _ (computing.Computes.int) })))
    (step.Step.throws _ _ _ _ _ _ _ _ (record { there = refl; does = does.Does.makes _ _ (objects.MakesObject.array_negative _ _ refl) }) (unwinding.ThrowsError.throws _ _ refl (unwinding.Unwinds.leaves _ _ _ _ _ _ _ refl (unwinding.Unwinds.empties _ _))))

pub casts_other_runs : Exec casts_other (calls_0 ∷ []) casts_other_states
unfolding int_wrap
casts_other_runs =
    then (then (then (then (then (execution.Exec.goes_on _ _ _ execution.Exec.begins (execution.Follows.starts calls_0 _ _ (record { place = 0; there = refl }) (execution.Starts.calls _ _ _ _ _ (execution.AreArguments.none _))))
    (step.Step.root_requests _ _ _ _ refl (step.Progresses.progresses (step.Assigns.none _))))
    (step.Step.complete _ _ _ refl))
    (step.Step.root_calls _ _ _ _ _ _ refl refl))
    (step.Step.goes _ _ _ _ _ _ _ _ _ (record { there = refl; does = does.Does.makes _ _ (objects.MakesObject.object _ refl) })))
    (step.Step.throws _ _ _ _ _ _ _ _ (record { there = refl; does = does.Does.tests _ _ (objects.TestsType.cast_refused _ _ refl refl) }) (unwinding.ThrowsError.throws _ _ refl (unwinding.Unwinds.leaves _ _ _ _ _ _ _ refl (unwinding.Unwinds.empties _ _))))

pub casts_to_nothing_runs : Exec casts_to_nothing (calls_0 ∷ []) casts_to_nothing_states
unfolding int_wrap
casts_to_nothing_runs =
    then (then (then (then (then (then (then (then (execution.Exec.goes_on _ _ _ execution.Exec.begins (execution.Follows.starts calls_0 _ _ (record { place = 0; there = refl }) (execution.Starts.calls _ _ _ _ _ (execution.AreArguments.none _))))
    (step.Step.root_requests _ _ _ _ refl (step.Progresses.progresses (step.Assigns.none _))))
    (step.Step.complete _ _ _ refl))
    (step.Step.root_calls _ _ _ _ _ _ refl refl))
    (step.Step.goes _ _ _ _ _ _ _ _ _ (record { there = refl; does = does.Does.computes _ _ (computing.Computes.null) })))
    (step.Step.goes _ _ _ _ _ _ _ _ _ (record { there = refl; does = does.Does.tests _ _ (objects.TestsType.cast_of_null _ refl) })))
    (step.Step.goes _ _ _ _ _ _ _ _ _ (record { there = refl; does = does.Does.moves _ (computing.Moves.falls) })))
    (step.Step.goes _ _ _ _ _ _ _ _ _ (record { there = refl; does = does.Does.makes _ _ (objects.MakesObject.object _ refl) })))
    (step.Step.throws _ _ _ _ _ _ _ _ (record { there = refl; does = does.Does.tests _ _ (objects.TestsType.cast_unlinked _ _ refl) }) (unwinding.ThrowsError.throws _ _ refl (unwinding.Unwinds.leaves _ _ _ _ _ _ _ refl (unwinding.Unwinds.empties _ _))))

pub calls_null_runs : Exec calls_null (calls_0 ∷ []) calls_null_states
unfolding int_wrap
calls_null_runs =
    then (then (then (then (then (execution.Exec.goes_on _ _ _ execution.Exec.begins (execution.Follows.starts calls_0 _ _ (record { place = 0; there = refl }) (execution.Starts.calls _ _ _ _ _ (execution.AreArguments.none _))))
    (step.Step.root_requests _ _ _ _ refl (step.Progresses.progresses (step.Assigns.none _))))
    (step.Step.complete _ _ _ refl))
    (step.Step.root_calls _ _ _ _ _ _ refl refl))
    (step.Step.goes _ _ _ _ _ _ _ _ _ (record { there = refl; does = does.Does.computes _ _ (computing.Computes.null) })))
    (step.Step.throws _ _ _ _ _ _ _ _ (record { there = refl; does = does.Does.calls _ _ (does.Calls.of_null _ refl) }) (unwinding.ThrowsError.throws _ _ refl (unwinding.Unwinds.leaves _ _ _ _ _ _ _ refl (unwinding.Unwinds.empties _ _))))

pub calls_nothing_runs : Exec calls_nothing (calls_0 ∷ []) calls_nothing_states
unfolding int_wrap
calls_nothing_runs =
    then (then (then (then (then (execution.Exec.goes_on _ _ _ execution.Exec.begins (execution.Follows.starts calls_0 _ _ (record { place = 0; there = refl }) (execution.Starts.calls _ _ _ _ _ (execution.AreArguments.none _))))
    (step.Step.root_requests _ _ _ _ refl (step.Progresses.progresses (step.Assigns.none _))))
    (step.Step.complete _ _ _ refl))
    (step.Step.root_calls _ _ _ _ _ _ refl refl))
    (step.Step.goes _ _ _ _ _ _ _ _ _ (record { there = refl; does = does.Does.makes _ _ (objects.MakesObject.object _ refl) })))
    (step.Step.throws _ _ _ _ _ _ _ _ (record { there = refl; does = does.Does.calls _ _ (does.Calls.none _ _ _ refl refl) }) (unwinding.ThrowsError.throws _ _ refl (unwinding.Unwinds.leaves _ _ _ _ _ _ _ refl (unwinding.Unwinds.empties _ _))))

pub gets_nothing_runs : Exec gets_nothing (calls_0 ∷ []) gets_nothing_states
unfolding int_wrap
gets_nothing_runs =
    then (then (then (then (execution.Exec.goes_on _ _ _ execution.Exec.begins (execution.Follows.starts calls_0 _ _ (record { place = 0; there = refl }) (execution.Starts.calls _ _ _ _ _ (execution.AreArguments.none _))))
    (step.Step.root_requests _ _ _ _ refl (step.Progresses.progresses (step.Assigns.none _))))
    (step.Step.complete _ _ _ refl))
    (step.Step.root_calls _ _ _ _ _ _ refl refl))
    (step.Step.throws _ _ _ _ _ _ _ _ (record { there = refl; does = does.Does.field _ _ (fields.UsesField.get_static_unlinked _) }) (unwinding.ThrowsError.throws _ _ refl (unwinding.Unwinds.leaves _ _ _ _ _ _ _ refl (unwinding.Unwinds.empties _ _))))
