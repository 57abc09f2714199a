use Rattle.std.proofs.Common.{◌≡◌, ℕ, List, sym, ap, ◌∙◌}
use Rattle.wf_runs.specs.Run.{◌>>=◌}
use Rattle.wf_runs.proofs.RunLaws.{here, turns, then, answered, no_memory_leaves, hands_on_leaves}
use Rattle.wf_walk.specs.declared.file.File.{File}
use Rattle.wf_walk.specs.File.{read_file}
use Rattle.world.specs.Load.{take_file}
use Rattle.world.proofs.load.load_file.Goals as goal

pub returns-in_err-path : goal.returns-in_err-path
returns-in_err-path g c = no_memory_leaves _ _ c.from_residual.ensures.1 (here _ _)

pub returns-in_err-file : goal.returns-in_err-file
returns-in_err-file g c =
    let f = λ (file : File). take_file c.args.dir.now file c.args.so_far.now in
    let same : c.in_ok-path.path ≡ c.args.path.now = c.in_ok-path.ensures ∙ c.as_slice.ensures in
    hands_on_leaves f _ _ c.from_residual-in_err-file.ensures.1 (turns (ap (λ (p : List ℕ). read_file p >>= f) (sym same)) (here _ _)) c.in_err-file.ensures.read

pub returns : goal.returns
returns g c =
    let f = λ (file : File). take_file c.args.dir.now file c.args.so_far.now in
    let same : c.in_ok-path.path ≡ c.args.path.now = c.in_ok-path.ensures ∙ c.as_slice.ensures in
    answered (then f (turns (ap (λ (p : List ℕ). read_file p >>= f) (sym same)) (here _ _)) c.in_ok-file.ensures.read) c.take_file.ensures
