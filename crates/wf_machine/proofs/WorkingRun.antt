-- Small programs for the other families of instructions run as they should: their states follow one another.
use Rattle.std.proofs.Common.{[], ◌∷◌, refl}
use Rattle.std.specs.Int.{int_wrap}
use Rattle.wf_machine.specs.Steps as step
use Rattle.wf_machine.specs.Arrays as arrays
use Rattle.wf_machine.specs.Computing as computing
use Rattle.wf_machine.specs.Does as does
use Rattle.wf_machine.specs.Fields as fields
use Rattle.wf_machine.specs.Objects as objects
use Rattle.wf_machine.specs.Outside as outside
use Rattle.wf_machine.specs.Unwinding as unwinding
use Rattle.wf_machine.specs.Executions as execution
use Rattle.wf_machine.specs.Executions.{Exec}
use Rattle.wf_machine.proofs.Running.{then}
use Rattle.wf_machine.specs.Programs.{calls_0}
use Rattle.wf_machine.specs.Working.{works_out, works_out_states, compares, compares_states, uses_static, uses_static_states, measures, measures_states, measures_object, measures_object_states, gets_elsewhere, gets_elsewhere_states, locks, locks_states, tests_object, tests_object_states, throws_object, throws_object_states, writes_argument, writes_argument_states}

pub works_out_runs : Exec works_out (calls_0 ∷ []) works_out_states
unfolding int_wrap
works_out_runs =
    then (then (then (then (then (then (then (then (then (then (then (then (execution.Exec.goes_on _ _ _ execution.Exec.begins (execution.Follows.starts calls_0 _ _ (record { place = 0; there = refl }) (execution.Starts.calls _ _ _ _ _ (execution.AreArguments.none _))))
    (step.Step.root_requests _ _ _ _ refl (step.Progresses.progresses (step.Assigns.none _))))
    (step.Step.complete _ _ _ refl))
    (step.Step.root_calls _ _ _ _ _ _ refl refl))
    (step.Step.goes _ _ _ _ _ _ _ _ _ (record { there = refl; does = does.Does.computes _ _ (computing.Computes.int) })))
    (step.Step.goes _ _ _ _ _ _ _ _ _ (record { there = refl; does = does.Does.computes _ _ (computing.Computes.int) })))
    (step.Step.goes _ _ _ _ _ _ _ _ _ (record { there = refl; does = does.Does.computes _ _ (computing.Computes.int_shift _ _ _ refl refl) })))
    (step.Step.goes _ _ _ _ _ _ _ _ _ (record { there = refl; does = does.Does.computes _ _ (computing.Computes.int_negate _ refl) })))
    (step.Step.goes _ _ _ _ _ _ _ _ _ (record { there = refl; does = does.Does.computes _ _ (computing.Computes.narrow _ _ refl) })))
    (step.Step.goes _ _ _ _ _ _ _ _ _ (record { there = refl; does = does.Does.computes _ _ (computing.Computes.int_to_long _ refl) })))
    (step.Step.goes _ _ _ _ _ _ _ _ _ (record { there = refl; does = does.Does.computes _ _ (computing.Computes.long) })))
    (step.Step.goes _ _ _ _ _ _ _ _ _ (record { there = refl; does = does.Does.computes _ _ (computing.Computes.compare _ _ refl refl) })))
    (step.Step.returns _ _ _ _ _ _ _ _ _ (record { there = refl; does = does.Does.returns_value _ }) (unwinding.Resumes.root _))

pub compares_runs : Exec compares (calls_0 ∷ []) compares_states
unfolding int_wrap
compares_runs =
    then (then (then (then (then (then (then (then (then (then (execution.Exec.goes_on _ _ _ execution.Exec.begins (execution.Follows.starts calls_0 _ _ (record { place = 0; there = refl }) (execution.Starts.calls _ _ _ _ _ (execution.AreArguments.none _))))
    (step.Step.root_requests _ _ _ _ refl (step.Progresses.progresses (step.Assigns.none _))))
    (step.Step.complete _ _ _ refl))
    (step.Step.root_calls _ _ _ _ _ _ refl refl))
    (step.Step.goes _ _ _ _ _ _ _ _ _ (record { there = refl; does = does.Does.computes _ _ (computing.Computes.null) })))
    (step.Step.goes _ _ _ _ _ _ _ _ _ (record { there = refl; does = does.Does.computes _ _ (computing.Computes.null) })))
    (step.Step.goes _ _ _ _ _ _ _ _ _ (record { there = refl; does = does.Does.moves _ (computing.Moves.holds _ _ (computing.Says.refs _ _ refl)) })))
    (step.Step.goes _ _ _ _ _ _ _ _ _ (record { there = refl; does = does.Does.computes _ _ (computing.Computes.null) })))
    (step.Step.goes _ _ _ _ _ _ _ _ _ (record { there = refl; does = does.Does.moves _ (computing.Moves.fails _ _ (computing.Says.to_null _ _ refl)) })))
    (step.Step.goes _ _ _ _ _ _ _ _ _ (record { there = refl; does = does.Does.moves _ (computing.Moves.jumps _) })))
    (step.Step.returns _ _ _ _ _ _ _ _ _ (record { there = refl; does = does.Does.returns }) (unwinding.Resumes.root _))

pub uses_static_runs : Exec uses_static (calls_0 ∷ []) uses_static_states
unfolding int_wrap
uses_static_runs =
    then (then (then (then (then (then (then (execution.Exec.goes_on _ _ _ execution.Exec.begins (execution.Follows.starts calls_0 _ _ (record { place = 0; there = refl }) (execution.Starts.calls _ _ _ _ _ (execution.AreArguments.none _))))
    (step.Step.root_requests _ _ _ _ refl (step.Progresses.progresses (step.Assigns.none _))))
    (step.Step.complete _ _ _ refl))
    (step.Step.root_calls _ _ _ _ _ _ refl refl))
    (step.Step.goes _ _ _ _ _ _ _ _ _ (record { there = refl; does = does.Does.computes _ _ (computing.Computes.int) })))
    (step.Step.goes _ _ _ _ _ _ _ _ _ (record { there = refl; does = does.Does.field _ _ (fields.UsesField.put_static _ _ refl) })))
    (step.Step.goes _ _ _ _ _ _ _ _ _ (record { there = refl; does = does.Does.field _ _ (fields.UsesField.get_static _ _ refl refl) })))
    (step.Step.returns _ _ _ _ _ _ _ _ _ (record { there = refl; does = does.Does.returns_value _ }) (unwinding.Resumes.root _))

pub measures_runs : Exec measures (calls_0 ∷ []) measures_states
unfolding int_wrap
measures_runs =
    then (then (then (then (then (then (then (execution.Exec.goes_on _ _ _ execution.Exec.begins (execution.Follows.starts calls_0 _ _ (record { place = 0; there = refl }) (execution.Starts.calls _ _ _ _ _ (execution.AreArguments.none _))))
    (step.Step.root_requests _ _ _ _ refl (step.Progresses.progresses (step.Assigns.none _))))
    (step.Step.complete _ _ _ refl))
    (step.Step.root_calls _ _ _ _ _ _ refl refl))
    (step.Step.goes _ _ _ _ _ _ _ _ _ (record { there = refl; does = does.Does.computes _ _ (computing.Computes.int) })))
    (step.Step.goes _ _ _ _ _ _ _ _ _ (record { there = refl; does = does.Does.makes _ _ (objects.MakesObject.array _ _ refl) })))
    (step.Step.goes _ _ _ _ _ _ _ _ _ (record { there = refl; does = does.Does.array _ _ (arrays.UsesArray.length_of _ refl refl) })))
    (step.Step.returns _ _ _ _ _ _ _ _ _ (record { there = refl; does = does.Does.returns_value _ }) (unwinding.Resumes.root _))

pub measures_object_runs : Exec measures_object (calls_0 ∷ []) measures_object_states
unfolding int_wrap
measures_object_runs =
    then (then (then (then (then (execution.Exec.goes_on _ _ _ execution.Exec.begins (execution.Follows.starts calls_0 _ _ (record { place = 0; there = refl }) (execution.Starts.calls _ _ _ _ _ (execution.AreArguments.none _))))
    (step.Step.root_requests _ _ _ _ refl (step.Progresses.progresses (step.Assigns.none _))))
    (step.Step.complete _ _ _ refl))
    (step.Step.root_calls _ _ _ _ _ _ refl refl))
    (step.Step.goes _ _ _ _ _ _ _ _ _ (record { there = refl; does = does.Does.makes _ _ (objects.MakesObject.object _ refl) })))
    (step.Step.ends _ _ _ _ _ _ (record { there = refl; does = does.Does.array _ _ (arrays.UsesArray.length_elsewhere _ refl refl) }))

pub gets_elsewhere_runs : Exec gets_elsewhere (calls_0 ∷ []) gets_elsewhere_states
unfolding int_wrap
gets_elsewhere_runs =
    then (then (then (then (then (execution.Exec.goes_on _ _ _ execution.Exec.begins (execution.Follows.starts calls_0 _ _ (record { place = 0; there = refl }) (execution.Starts.calls _ _ _ _ _ (execution.AreArguments.none _))))
    (step.Step.root_requests _ _ _ _ refl (step.Progresses.progresses (step.Assigns.none _))))
    (step.Step.complete _ _ _ refl))
    (step.Step.root_calls _ _ _ _ _ _ refl refl))
    (step.Step.goes _ _ _ _ _ _ _ _ _ (record { there = refl; does = does.Does.makes _ _ (objects.MakesObject.object _ refl) })))
    (step.Step.ends _ _ _ _ _ _ (record { there = refl; does = does.Does.field _ _ (fields.UsesField.get_elsewhere _ _ refl refl) }))

pub locks_runs : Exec locks (calls_0 ∷ []) locks_states
unfolding int_wrap
locks_runs =
    then (then (then (then (then (then (then (then (execution.Exec.goes_on _ _ _ execution.Exec.begins (execution.Follows.starts calls_0 _ _ (record { place = 0; there = refl }) (execution.Starts.calls _ _ _ _ _ (execution.AreArguments.none _))))
    (step.Step.root_requests _ _ _ _ refl (step.Progresses.progresses (step.Assigns.none _))))
    (step.Step.complete _ _ _ refl))
    (step.Step.root_calls _ _ _ _ _ _ refl refl))
    (step.Step.goes _ _ _ _ _ _ _ _ _ (record { there = refl; does = does.Does.makes _ _ (objects.MakesObject.object _ refl) })))
    (step.Step.goes _ _ _ _ _ _ _ _ _ (record { there = refl; does = does.Does.moves _ (computing.Moves.falls) })))
    (step.Step.goes _ _ _ _ _ _ _ _ _ (record { there = refl; does = does.Does.monitors _ refl })))
    (step.Step.goes _ _ _ _ _ _ _ _ _ (record { there = refl; does = does.Does.monitors _ refl })))
    (step.Step.returns _ _ _ _ _ _ _ _ _ (record { there = refl; does = does.Does.returns }) (unwinding.Resumes.root _))

pub tests_object_runs : Exec tests_object (calls_0 ∷ []) tests_object_states
unfolding int_wrap
tests_object_runs =
    then (then (then (then (then (then (then (execution.Exec.goes_on _ _ _ execution.Exec.begins (execution.Follows.starts calls_0 _ _ (record { place = 0; there = refl }) (execution.Starts.calls _ _ _ _ _ (execution.AreArguments.none _))))
    (step.Step.root_requests _ _ _ _ refl (step.Progresses.progresses (step.Assigns.none _))))
    (step.Step.complete _ _ _ refl))
    (step.Step.root_calls _ _ _ _ _ _ refl refl))
    (step.Step.goes _ _ _ _ _ _ _ _ _ (record { there = refl; does = does.Does.makes _ _ (objects.MakesObject.object _ refl) })))
    (step.Step.goes _ _ _ _ _ _ _ _ _ (record { there = refl; does = does.Does.tests _ _ (objects.TestsType.cast _ _ refl refl) })))
    (step.Step.goes _ _ _ _ _ _ _ _ _ (record { there = refl; does = does.Does.tests _ _ (objects.TestsType.is _ _ refl) })))
    (step.Step.returns _ _ _ _ _ _ _ _ _ (record { there = refl; does = does.Does.returns_value _ }) (unwinding.Resumes.root _))

pub throws_object_runs : Exec throws_object (calls_0 ∷ []) throws_object_states
unfolding int_wrap
throws_object_runs =
    then (then (then (then (then (then (then (execution.Exec.goes_on _ _ _ execution.Exec.begins (execution.Follows.starts calls_0 _ _ (record { place = 0; there = refl }) (execution.Starts.calls _ _ _ _ _ (execution.AreArguments.none _))))
    (step.Step.root_requests _ _ _ _ refl (step.Progresses.progresses (step.Assigns.none _))))
    (step.Step.complete _ _ _ refl))
    (step.Step.root_calls _ _ _ _ _ _ refl refl))
    (step.Step.goes _ _ _ _ _ _ _ _ _ (record { there = refl; does = does.Does.makes _ _ (objects.MakesObject.object _ refl) })))
    (step.Step.throws_object _ _ _ _ _ _ _ _ (record { there = refl; does = does.Does.throws _ refl }) (unwinding.Unwinds.caught _ _ _ _ _ _ _ refl)))
    (step.Step.goes _ _ _ _ _ _ _ _ _ (record { there = refl; does = does.Does.moves _ (computing.Moves.falls) })))
    (step.Step.returns _ _ _ _ _ _ _ _ _ (record { there = refl; does = does.Does.returns }) (unwinding.Resumes.root _))

pub writes_argument_runs : Exec writes_argument (calls_0 ∷ []) writes_argument_states
unfolding int_wrap
writes_argument_runs =
    then (then (then (then (then (then (then (then (then (execution.Exec.goes_on _ _ _ execution.Exec.begins (execution.Follows.starts calls_0 _ _ (record { place = 0; there = refl }) (execution.Starts.calls _ _ _ _ _ (execution.AreArguments.none _))))
    (step.Step.root_requests _ _ _ _ refl (step.Progresses.progresses (step.Assigns.none _))))
    (step.Step.complete _ _ _ refl))
    (step.Step.root_calls _ _ _ _ _ _ refl refl))
    (step.Step.goes _ _ _ _ _ _ _ _ _ (record { there = refl; does = does.Does.makes _ _ (objects.MakesObject.object _ refl) })))
    (step.Step.enters _ _ _ _ _ _ _ _ _ (record { there = refl; does = does.Does.calls_static _ _ (does.CallsStatic.calls _ refl) }) refl))
    (step.Step.acts _ _ _ _ _ _ _ refl (record { place = 0; there = refl }) (outside.Acts.writes _ _ _ _ _ (outside.IsGiven.argument 0 _ refl) (outside.Writes.instance _ _ refl (record { place = 0; there = refl }) refl))))
    (step.Step.answers _ _ _ _ _ _ _ _ _ _ refl (record { place = 1; there = refl }) (outside.Answers.value _ _ _ (outside.IsGiven.argument 0 _ refl)) (unwinding.Resumes.caller _ _ _ _ _ _ refl refl)))
    (step.Step.goes _ _ _ _ _ _ _ _ _ (record { there = refl; does = does.Does.moves _ (computing.Moves.falls) })))
    (step.Step.returns _ _ _ _ _ _ _ _ _ (record { there = refl; does = does.Does.returns }) (unwinding.Resumes.root _))
