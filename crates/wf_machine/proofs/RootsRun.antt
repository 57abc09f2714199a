-- Small programs with several roots run as they should: their states follow one another.
use Rattle.std.proofs.Common.{pos, [], ◌∷◌, refl, arith}
use Rattle.std.proofs.lemmas.Int.{fits_signed_from_abs}
use Rattle.std.specs.Int.{int_wrap, w64}
use Rattle.std.specs.Int.RustNames.{FitsSigned}
use Rattle.wf_machine.specs.Steps as step
use Rattle.wf_machine.specs.Does as does
use Rattle.wf_machine.specs.Outside as outside
use Rattle.wf_machine.specs.Stated as stated
use Rattle.wf_machine.specs.Unwinding as unwinding
use Rattle.wf_machine.specs.Executions as execution
use Rattle.wf_machine.specs.Executions.{Exec}
use Rattle.wf_machine.proofs.ClassesRun.{fails_runs}
use Rattle.wf_machine.proofs.Running.{then}
use Rattle.wf_machine.specs.Programs.{calls_0, fails}
use Rattle.wf_machine.specs.Rooting.{has_0, calls_with, returns, initializes_states, starts_twice_states, fails_again_states, takes, takes_states, calls_void, calls_void_states}

pub initializes_runs : Exec returns (has_0 ∷ []) initializes_states
unfolding int_wrap
initializes_runs =
    then (then (then (execution.Exec.goes_on _ _ _ execution.Exec.begins (execution.Follows.starts has_0 _ _ (record { place = 0; there = refl }) (execution.Starts.has _ _)))
    (step.Step.root_requests _ _ _ _ refl (step.Progresses.progresses (step.Assigns.none _))))
    (step.Step.complete _ _ _ refl))
    (step.Step.root_done _ _ _ refl)

pub starts_twice_runs : Exec returns (calls_0 ∷ has_0 ∷ []) starts_twice_states
unfolding int_wrap
starts_twice_runs =
    then (execution.Exec.goes_on _ _ _ (then (then (then (then (execution.Exec.goes_on _ _ _ execution.Exec.begins (execution.Follows.starts calls_0 _ _ (record { place = 0; there = refl }) (execution.Starts.calls _ _ _ _ _ (execution.AreArguments.none _))))
    (step.Step.root_requests _ _ _ _ refl (step.Progresses.progresses (step.Assigns.none _))))
    (step.Step.complete _ _ _ refl))
    (step.Step.root_calls _ _ _ _ _ _ refl refl))
    (step.Step.returns _ _ _ _ _ _ _ _ _ (record { there = refl; does = does.Does.returns }) (unwinding.Resumes.root _)))
    (execution.Follows.starts has_0 _ _ (record { place = 1; there = refl }) (execution.Starts.has _ _)))
    (step.Step.root_done _ _ _ refl)

pub fails_again_runs : Exec fails (calls_0 ∷ []) fails_again_states
unfolding int_wrap
fails_again_runs =
    then (execution.Exec.goes_on _ _ _ fails_runs
    (execution.Follows.starts calls_0 _ _ (record { place = 0; there = refl }) (execution.Starts.calls _ _ _ _ _ (execution.AreArguments.none _))))
    (step.Step.root_fails _ _ _ _ refl (unwinding.ThrowsError.throws _ _ refl (unwinding.Unwinds.drops _ _ _ _ _ (unwinding.Unwinds.empties _ _))))

fits_7 : FitsSigned w64 (pos 7)
fits_7 = fits_signed_from_abs w64 (pos 7) (omega arith)

pub takes_runs : Exec takes (calls_with ∷ []) takes_states
unfolding int_wrap
takes_runs =
    then (then (then (then (execution.Exec.goes_on _ _ _ execution.Exec.begins (execution.Follows.starts calls_with _ _ (record { place = 0; there = refl }) (execution.Starts.calls _ _ _ _ _ (execution.AreArguments.long _ _ _ _ _ fits_7 (execution.AreArguments.null _ _ _ _ _ (execution.AreArguments.object _ _ _ _ _ _ _ _ (record { place = 1; there = refl }) (stated.Makes.makes 0 (λ _. refl)) (execution.AreArguments.none _)))))))
    (step.Step.root_requests _ _ _ _ refl (step.Progresses.progresses (step.Assigns.none _))))
    (step.Step.complete _ _ _ refl))
    (step.Step.root_calls _ _ _ _ _ _ refl refl))
    (step.Step.returns _ _ _ _ _ _ _ _ _ (record { there = refl; does = does.Does.returns }) (unwinding.Resumes.root _))

pub calls_void_runs : Exec calls_void (calls_0 ∷ []) calls_void_states
unfolding int_wrap
calls_void_runs =
    then (then (then (then (then (then (execution.Exec.goes_on _ _ _ execution.Exec.begins (execution.Follows.starts calls_0 _ _ (record { place = 0; there = refl }) (execution.Starts.calls _ _ _ _ _ (execution.AreArguments.none _))))
    (step.Step.root_requests _ _ _ _ refl (step.Progresses.progresses (step.Assigns.none _))))
    (step.Step.complete _ _ _ refl))
    (step.Step.root_calls _ _ _ _ _ _ refl refl))
    (step.Step.enters _ _ _ _ _ _ _ _ _ (record { there = refl; does = does.Does.calls_static _ _ (does.CallsStatic.calls _ refl) }) refl))
    (step.Step.answers _ _ _ _ _ _ _ _ _ _ refl (record { place = 0; there = refl }) outside.Answers.void (unwinding.Resumes.caller _ _ _ _ _ _ refl refl)))
    (step.Step.returns _ _ _ _ _ _ _ _ _ (record { there = refl; does = does.Does.returns }) (unwinding.Resumes.root _))
