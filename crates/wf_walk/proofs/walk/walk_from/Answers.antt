use Rattle.std.proofs.Common.{refl, ◌∙◌}
use Rattle.wf_runs.specs.Run.{Gives}
use Rattle.wf_runs.proofs.RunLaws.{here, turns, then, answered, no_memory, hands_on}
use Rattle.wf_walk.specs.declared.walk.Walked.{Walked}
use Rattle.wf_walk.proofs.WalkLaws.{from_start}
use Rattle.wf_walk.proofs.walk.walk_from.Goals as goal

pub returns-in_err-dir : goal.returns-in_err-dir
returns-in_err-dir g c = no_memory _ c.from_residual.ensures.1 (here _ _)

pub returns-in_err-walk : goal.returns-in_err-walk
returns-in_err-walk g c =
    let start = from_start c.in_ok-dir.dir c.args.dir.now c.new.result (c.in_ok-dir.ensures ∙ c.as_slice.ensures) c.new.ensures in
    hands_on (λ (w : Walked). Gives w.noted) _ c.from_residual-in_err-walk.ensures.1 (turns start (here _ _)) c.in_err-walk.ensures

pub returns : goal.returns
returns g c =
    let start = from_start c.in_ok-dir.dir c.args.dir.now c.new.result (c.in_ok-dir.ensures ∙ c.as_slice.ensures) c.new.ensures in
    answered (then (λ (w : Walked). Gives w.noted) (turns start (here _ _)) c.in_ok-walk.ensures) refl
