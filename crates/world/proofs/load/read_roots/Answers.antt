use Rattle.std.proofs.Common.{ℕ, List, sym, ap}
use Rattle.wf_runs.specs.Run.{◌>>=◌}
use Rattle.wf_runs.proofs.RunLaws.{here, turns, then, answered, no_memory, hands_on}
use Rattle.wf_walk.specs.declared.file.File.{File}
use Rattle.wf_walk.specs.File.{read_file}
use Rattle.world.specs.Load.{rooted}
use Rattle.world.proofs.load.read_roots.Goals as goal

pub returns-in_err-path : goal.returns-in_err-path
returns-in_err-path g c = no_memory _ c.from_residual.ensures.1 (here _ _)

pub returns-in_err-file : goal.returns-in_err-file
returns-in_err-file g c =
    let f = λ (file : File). rooted c.args.classes file.bytes in
    hands_on f _ c.from_residual-in_err-file.ensures.1 (turns (ap (λ (p : List ℕ). read_file p >>= f) (sym c.in_ok-path.ensures)) (here _ _)) c.in_err-file.ensures.read

pub returns : goal.returns
returns g c =
    let f = λ (file : File). rooted c.args.classes file.bytes in
    answered (then f (turns (ap (λ (p : List ℕ). read_file p >>= f) (sym c.in_ok-path.ensures)) (here _ _)) c.in_ok-file.ensures.read) c.rooted.ensures
