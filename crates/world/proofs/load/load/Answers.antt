use Rattle.std.proofs.Common.{◌≡◌, ℕ, true, false, List, refl, sym, ap, inl, rules}
use Rattle.wf_runs.proofs.RunLaws.{here, turns, then, done, answered, no_memory, hands_on}
use Rattle.world.specs.Load.{load_run, with_paths, with_classes}
use Rattle.wf_first.specs.Roots.{has_object}
use Rattle.world.proofs.LoadLaws.{no_object, object_is_there}
use Rattle.world.proofs.load.load.Goals as goal

pub returns-in_err-dir : goal.returns-in_err-dir
returns-in_err-dir g c = no_memory _ c.from_residual.ensures.1 (here _ _)

pub returns-in_err-paths : goal.returns-in_err-paths
returns-in_err-paths g c =
    let start = ap (λ (d : List ℕ). load_run c.args.roots.now d) (sym c.in_ok-dir.ensures) in
    hands_on (with_paths c.args.roots.now c.in_ok-dir.dir) _ c.from_residual-in_err-paths.ensures.1 (turns start (here _ _)) c.in_err-paths.ensures

pub returns-in_err-classes : goal.returns-in_err-classes
returns-in_err-classes g c =
    let start = ap (λ (d : List ℕ). load_run c.args.roots.now d) (sym c.in_ok-dir.ensures) in
    hands_on (with_classes c.args.roots.now) _ c.from_residual-in_err-classes.ensures.1
    (then (with_paths c.args.roots.now c.in_ok-dir.dir) (turns start (here _ _)) c.in_ok-paths.ensures) c.in_err-classes.ensures

pub returns-then-not-has_object : goal.returns-then-not-has_object
returns-then-not-has_object g c =
    let start = ap (λ (d : List ℕ). load_run c.args.roots.now d) (sym c.in_ok-dir.ensures) in
    let none : has_object c.in_ok-classes.classes ≡ false = search rules in
    answered (turns (no_object c.args.roots.now c.in_ok-classes.classes none)
    (then (with_classes c.args.roots.now) (then (with_paths c.args.roots.now c.in_ok-dir.dir) (turns start (here _ _)) c.in_ok-paths.ensures) c.in_ok-classes.ensures)) (inl refl)

pub returns : goal.returns
returns g c =
    let start = ap (λ (d : List ℕ). load_run c.args.roots.now d) (sym c.in_ok-dir.ensures) in
    let there : has_object c.in_ok-classes.classes ≡ true = search rules in
    done (turns (object_is_there c.args.roots.now c.in_ok-classes.classes there)
    (then (with_classes c.args.roots.now) (then (with_paths c.args.roots.now c.in_ok-dir.dir) (turns start (here _ _)) c.in_ok-paths.ensures) c.in_ok-classes.ensures)) c.read_roots.ensures
